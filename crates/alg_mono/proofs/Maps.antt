-- Polynomials over any atoms are finite maps with the usual sums, opposites and products.
use Rattle.std.specs.Prelude.{◌≡◌, ℕ, ℤ, pos, ◌+ℤ◌, ◌*ℤ◌, List, [], ◌++◌}
use Rattle.std.proofs.Common.{sym, ap, ◌∙◌}
use lib.IntN.{neg_ℤ}
use Rattle.std.specs.declared.cmp.Ordering.{Ordering}
use Rattle.std.specs.Cmp.{IsTotalOrder}
use Rattle.std.specs.FinMap.{IsAntisymmetric}
use Rattle.alg_mono.specs.FiniteMaps.{at_key, products, total}
use Rattle.alg_mono.specs.Laws.{at, PolynomialsAreMaps}
use Rattle.alg_mono.specs.Monomials.{mono_times, falling}
use Rattle.alg_mono.specs.Numbers.{integers}
use Rattle.alg_mono.specs.Polynomials.{PolyOver, poly_neg, poly_plus}
use Rattle.alg_mono.proofs.Canonical.{amount-total, amount-collect, same_canonical}
use Rattle.alg_mono.proofs.Grevlex.{falling_total, falling_anti}
use Rattle.alg_mono.proofs.Numbers.{integer_laws, integer_sum}
use Rattle.alg_mono.proofs.Renaming.{total-neg, at_key-neg}
use Rattle.alg_mono.proofs.Totals.{total-append, total-products}

module _ {K : Type 0} (cmp : K → K → Ordering) (o : IsTotalOrder cmp) (anti : IsAntisymmetric cmp) where
  -- the coefficient at m as a sum over the terms
  abbrev key : List (K × ℕ) → List (K × ℕ) → ℤ → ℤ
  key m = at_key (falling cmp) integers.amounts m

  abbrev Sum : (List (K × ℕ) → ℤ → ℤ) → PolyOver K → ℤ
  Sum g p = total (pos 0) ◌+ℤ◌ g p

  at-total : (m : List (K × ℕ)) (p : PolyOver K) → at cmp m p ≡ Sum (key m) p
  at-total m p = amount-total integer_laws.amounts (falling_total o anti) (falling_anti o anti) m p

  at-collect : (m : List (K × ℕ)) (p : PolyOver K) → at cmp m (poly_plus (falling cmp) integers [] p) ≡ Sum (key m) p
  at-collect m p =
      amount-collect integer_laws.amounts (falling_total o anti) (falling_anti o anti) m p ∙ at-total m p

  pub polynomials_are_maps : PolynomialsAreMaps cmp
  polynomials_are_maps = record {
    sum =
        λ m p q. at-collect m (p ++ q) ∙ total-append integer_sum (key m) p q
        ∙ sym (λ i. at-total m p i +ℤ at-total m q i);
    opposite =
        λ m p. at-total m (poly_neg p) ∙ total-neg (key m) (λ n c. at_key-neg (falling cmp) m n c) p
        ∙ ap neg_ℤ (sym (at-total m p));
    product =
        λ m p q. at-collect m (products (mono_times cmp) ◌*ℤ◌ p q)
        ∙ total-products (mono_times cmp) ◌*ℤ◌ integer_sum (key m) p q;
    equal =
        λ p q c d same. same_canonical integer_laws.amounts (falling_total o anti) (falling_anti o anti) p q c.canonical
        d.canonical same;
  }
