-- Which sums, products and powers break the rule on norms or the rule on degrees.
use Rattle.std.specs.Prelude.{ℕ, Bool, true, false, List, [], ◌∷◌, ℤ, ◌+◌, ◌*◌, ◌^◌, cond, ◌||◌, nat_lt, sum_by, ◌≤◌, ◌<◌}
use Rattle.std.specs.Int.RustNames.{unsigned_abs}
use Rattle.alg_mono.specs.Numbers.{is_zero}
use Rattle.alg_mono.specs.Monomials.{degree, MAX_DEGREE}
use Rattle.alg_mono.specs.Polynomials.{PolyOver, MAX, norm, poly_degree}

-- breaks no rule, breaks the rule on norms, or breaks the rule on degrees alone
pub data Outcome : Type 0 where
  Fine : Outcome
  Range : Outcome
  Degree : Outcome

-- of a bound on the norm and a degree: the norm is tested first
abbrev pub outcome : ℕ → ℕ → Outcome
outcome bound degree =
    cond (nat_lt MAX bound) Outcome.Range (cond (nat_lt MAX_DEGREE degree) Outcome.Degree Outcome.Fine)

-- what an outcome says of the two
abbrev pub Says : ℕ → ℕ → Outcome → Type 0
Says bound degree Outcome.Fine = (bound ≤ MAX) × (degree ≤ MAX_DEGREE)
Says bound degree Outcome.Range = MAX < bound
Says bound degree Outcome.Degree = (bound ≤ MAX) × (MAX_DEGREE < degree)

-- of two things made in order: the first that breaks a rule
abbrev pub first_breach : Outcome → Outcome → Outcome
first_breach Outcome.Fine later = later
first_breach Outcome.Range later = Outcome.Range
first_breach Outcome.Degree later = Outcome.Degree

-- whether a polynomial has no term
abbrev pub is_nothing : {A : Type 0} → List A → Bool
is_nothing [] = true
is_nothing (e ∷ p) = false

-- whether a factor is zero
abbrev pub has_zero : {A : Type 0} → List (List A) → Bool
has_zero [] = false
has_zero (p ∷ ps) = is_nothing p || has_zero ps

-- the product of the norms
abbrev pub norm_product : {M : Type 0} → List (List (M × ℤ)) → ℕ
norm_product [] = 1
norm_product (p ∷ ps) = norm p * norm_product ps

module _ {K : Type 0} where
  -- p + q and p - q: the norms add up, and no degree is too great
  abbrev pub sum_outcome : PolyOver K → PolyOver K → Outcome
  sum_outcome p q = outcome (norm p + norm q) 0

  -- a product: the norms multiply and the degrees add up, but a factor zero breaks no rule
  abbrev pub product_outcome : List (PolyOver K) → Outcome
  product_outcome ps = cond (has_zero ps) Outcome.Fine (outcome (norm_product ps) (sum_by poly_degree ps))

  -- p^n, as the product of n factors p
  abbrev pub power_outcome : PolyOver K → ℕ → Outcome
  power_outcome p n = cond (is_nothing p) Outcome.Fine (outcome (norm p ^ n) (n * poly_degree p))

  -- c*m*p, as the product of c*m and p
  abbrev pub scale_outcome : ℤ → List (K × ℕ) → PolyOver K → Outcome
  scale_outcome c m p =
      cond (is_zero c || is_nothing p) Outcome.Fine (outcome (unsigned_abs c * norm p) (degree m + poly_degree p))

  -- a*m*p - b*n*q: Range where the parts' bounds on the norm add up to too much, which they do
  -- where a part is Range; else Degree where a part is
  abbrev pub combine_outcome : ℤ → List (K × ℕ) → PolyOver K → ℤ → List (K × ℕ) → PolyOver K → Outcome
  combine_outcome a m p b n q =
      first_breach (outcome (unsigned_abs a * norm p + unsigned_abs b * norm q) 0)
      (first_breach (scale_outcome a m p) (scale_outcome b n q))
