-- What stands at a monomial of multiples, sums and differences.
use Rattle.std.specs.Prelude.{◌≡◌, true, false, cond, [], ◌∷◌, ◌++◌, ℤ, pos, ◌+ℤ◌, ◌*ℤ◌}
use Rattle.std.proofs.Common.{refl, sym, ap, ◌∙◌, append-nil}
use lib.IntN.{neg_ℤ}
use Rattle.std.specs.Ordering.{nat_cmp}
use Rattle.std.specs.Cmp.{nat_cmp_total}
use Rattle.std.specs.FinMap.{nat_cmp-IsAntisymmetric}
use Rattle.alg_mono.specs.FiniteMaps.{IsCanonical, Each, amount, row, products}
use Rattle.alg_mono.specs.Numbers.{exponents, integers, is_zero}
use Rattle.alg_mono.specs.Mono.{Monomial}
use Rattle.alg_mono.specs.NumberedPolynomials.{Polynomial, sum_of, multiple_of, product_of}
use Rattle.alg_mono.specs.Polynomials.{poly_neg}
use Rattle.alg_mono.proofs.Numbers.{integer_laws, is_zero_only, zero-*ℤ, one-*ℤ}
use Rattle.alg_mono.proofs.Integers.{neg_ℤ-*ℤ}
use Rattle.alg_mono.proofs.Canonical.{amount-collect}
use Rattle.alg_mono.proofs.Maps.{polynomials_are_maps}
use Rattle.alg_mono.proofs.Monomials.{one_mono_times}
use Rattle.alg_lines.specs.Lines.{combination}
use Rattle.alg_criterion.proofs.Numbered.{mono_times, falling}
use Rattle.alg_criterion.proofs.Quotients.{falling_total, falling_anti}
use Rattle.alg_criterion.proofs.Rows.{at-append, at-row_one}

abbrev pub val : Monomial → Polynomial → ℤ
val q p = amount falling integers.amounts q p

abbrev pub times_row : Monomial → ℤ → Polynomial → Polynomial
times_row m c p = row mono_times ◌*ℤ◌ m c p

pub at-sum : (q : Monomial) (p r : Polynomial) → val q (sum_of p r) ≡ val q p +ℤ val q r
at-sum q p r = amount-collect integer_laws.amounts falling_total falling_anti q (p ++ r) ∙ at-append falling q p r

pub at-product : (q : Monomial) (p r : Polynomial) → val q (product_of p r) ≡ val q (products mono_times ◌*ℤ◌ p r)
at-product q p r = amount-collect integer_laws.amounts falling_total falling_anti q (products mono_times ◌*ℤ◌ p r)

pub at-multiple : (q : Monomial) (c : ℤ) (m : Monomial) (p : Polynomial) →
    val q (multiple_of c m p) ≡ val q (times_row m c p)
at-multiple q c m p =
    elim (is_zero c) as (λ b. is_zero c ≡ b →
    val q (product_of (cond b [] ((m, c) ∷ [])) p) ≡ val q (times_row m c p)) [
      | true ↦ λ e. sym (at-row_one falling mono_times q m c p
          ∙ ap (λ z. z *ℤ val q (times_row m (pos 1) p)) (is_zero_only c e) ∙ zero-*ℤ (val q (times_row m (pos 1) p)))
      | false ↦ λ e. at-product q ((m, c) ∷ []) p ∙ ap (val q) (append-nil (times_row m c p))
    ] refl

row_one : (p : Polynomial) → Each (λ m. IsCanonical nat_cmp exponents m) p → times_row [] (pos 1) p ≡ p
row_one [] h = refl
row_one (e ∷ p) h =
    λ i. (one_mono_times nat_cmp_total nat_cmp-IsAntisymmetric e.0 h.0 i, one-*ℤ e.1 i) ∷ row_one p h.1 i

pub at-unit : (q : Monomial) (c : ℤ) (p : Polynomial) → Each (λ m. IsCanonical nat_cmp exponents m) p →
    val q (times_row [] c p) ≡ c *ℤ val q p
at-unit q c p h = at-row_one falling mono_times q [] c p ∙ ap (λ x. c *ℤ val q x) (row_one p h)

-- c*p
pub at-times : (q : Monomial) (c : ℤ) (p : Polynomial) → Each (λ m. IsCanonical nat_cmp exponents m) p →
    val q (multiple_of c [] p) ≡ c *ℤ val q p
at-times q c p h = at-multiple q c [] p ∙ at-unit q c p h

-- the negation comes into the factor
at-row_neg : (q m : Monomial) (c : ℤ) (p : Polynomial) →
    neg_ℤ (val q (times_row m c p)) ≡ val q (times_row m (neg_ℤ c) p)
at-row_neg q m c p =
    let y = val q (times_row m (pos 1) p) in
    ap neg_ℤ (at-row_one falling mono_times q m c p) ∙ sym (neg_ℤ-*ℤ c y)
    ∙ sym (at-row_one falling mono_times q m (neg_ℤ c) p)

-- a*m*p - b*n*r
pub at-combination : (q : Monomial) (a : ℤ) (m : Monomial) (p : Polynomial) (b : ℤ) (n : Monomial) (r : Polynomial) →
    val q (combination a m p b n r) ≡ val q (times_row m a p) +ℤ val q (times_row n (neg_ℤ b) r)
at-combination q a m p b n r =
    let maps = polynomials_are_maps nat_cmp nat_cmp_total nat_cmp-IsAntisymmetric in
    at-sum q (multiple_of a m p) (poly_neg (multiple_of b n r))
    ∙ (λ i. at-multiple q a m p i +ℤ (maps.opposite q (multiple_of b n r) ∙ ap neg_ℤ (at-multiple q b n r)
    ∙ at-row_neg q n b r) i)
