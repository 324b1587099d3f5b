-- Coefficients from 0 on have values in any commutative semiring, without opposites.
use Rattle.std.specs.Prelude.{◌≡◌, ℕ, zero, suc, ◌+◌, ◌*◌}
use Rattle.std.proofs.Common.{refl, sym, ap, ◌∙◌, add-suc, add-zero, mul-suc, mul-zero}
use Rattle.alg_universe.specs.Ones.{ones}
use Rattle.alg_mono.specs.Numbers.{naturals}
use Rattle.alg_mono.proofs.Totals.{idr, left_comm}
use Rattle.alg_meaning.proofs.Evaluation.{Semiring, IsNumbering}

module _ {B : Type 0} (R : Semiring B) where
  -- the sum of n ones
  abbrev pub natural_value : ℕ → B
  natural_value n = ones R.none R.one R.plus n

  natural_value-add : (m n : ℕ) → natural_value (m + n) ≡ R.plus (natural_value m) (natural_value n)
  natural_value-add m zero = rw add-zero (sym (idr R.laws.sum (natural_value m)))
  natural_value-add m (suc n) =
      rw add-suc
      (ap (R.plus R.one) (natural_value-add m n)
      ∙ left_comm R.laws.sum R.one (natural_value m) (natural_value n))

  natural_value-mul : (m n : ℕ) → natural_value (m * n) ≡ R.times (natural_value m) (natural_value n)
  natural_value-mul m zero =
      rw mul-zero (sym (R.laws.product.comm (natural_value m) R.none ∙ R.laws.none_times (natural_value m)))
  natural_value-mul m (suc n) =
      rw mul-suc
      (natural_value-add (m * n) m
      ∙ R.laws.sum.comm (natural_value (m * n)) (natural_value m)
      ∙ (λ i. R.plus (sym (idr R.laws.product (natural_value m)) i) (natural_value-mul m n i))
      ∙ sym (R.laws.dist (natural_value m) R.one (natural_value n)))

  -- so the lemmas on values of polynomials hold of coefficients from 0 on
  pub natural_numbering : IsNumbering naturals R natural_value
  natural_numbering = record {
    at_none = refl;
    at_one = idr R.laws.sum R.one;
    at_plus = natural_value-add;
    at_mul = natural_value-mul;
  }
