-- A combination takes any factor of zero.
use Rattle.std.specs.Prelude.{◌≡◌, ◌≢◌, ◌⊎◌, ℕ, zero, suc, ◌+◌, ◌-◌, ◌*◌, ◌^◌, ◌<◌, ◌≤◌, ◌||◌, not, true, false, cond, [], ◌∷◌, ℤ, pos, negsuc}
use Rattle.std.proofs.Common.{refl, sym, ap, ◌∙◌, arith, inl, inr, T}
use Rattle.std.specs.Ordering.{nat_cmp}
use Rattle.std.proofs.Math.Nat.{mul-zero}
use Rattle.std.specs.Int.RustNames.{unsigned_abs}
use Rattle.alg_mono.specs.Mono.{Monomial}
use Rattle.alg_mono.specs.Monomials.{degree}
use Rattle.alg_mono.specs.Numbers.{is_zero}
use Rattle.alg_mono.specs.NumberedPolynomials.{Polynomial, multiple_of, difference_of}
use Rattle.alg_mono.specs.Outcomes.{Outcome, outcome, first_breach, scale_outcome, combine_outcome}
use Rattle.alg_mono.specs.Polynomials.{IsPoly, MAX, norm, poly_degree}
use Rattle.alg_mono.proofs.Canonical.{first}
use Rattle.alg_mono.proofs.Norms.{norm-cons}
use Rattle.alg_mono.proofs.Outcomes.{said}
use Rattle.alg_poly.proofs.Zeros.{multiple_with_zero}
use Rattle.alg_lines.specs.Lines.{combination}
use Rattle.alg_check.specs.Checking.{IsFactor}

bound_same : (c a : ℤ) (p : Polynomial) → IsFactor c p a → unsigned_abs a * norm p ≡ unsigned_abs c * norm p
bound_same c a [] h = mul-zero (unsigned_abs a) ∙ sym (mul-zero (unsigned_abs c))
bound_same c a (e ∷ p) h = ap (λ (b : ℤ). unsigned_abs b * norm (e ∷ p)) h

zero_fine : (c : ℤ) (m : Monomial) → scale_outcome {K = ℕ} c m [] ≡ Outcome.Fine
zero_fine c m =
    elim (is_zero c) as (λ b. cond (b || true) Outcome.Fine (outcome (unsigned_abs c * norm {M = Monomial} [])
    (degree m + poly_degree {K = ℕ} {A = ℤ} [])) ≡ Outcome.Fine) [ true ↦ refl | false ↦ refl ]

scale_same : (c a : ℤ) (m : Monomial) (p : Polynomial) → IsFactor c p a → scale_outcome a m p ≡ scale_outcome c m p
scale_same c a m [] h = zero_fine a m ∙ sym (zero_fine c m)
scale_same c a m (e ∷ p) h = ap (λ (b : ℤ). scale_outcome b m (e ∷ p)) h

multiple_same : (c a : ℤ) (m : Monomial) (p : Polynomial) → IsFactor c p a → multiple_of a m p ≡ multiple_of c m p
multiple_same c a m [] h = multiple_with_zero a m ∙ sym (multiple_with_zero c m)
multiple_same c a m (e ∷ p) h = ap (λ (b : ℤ). multiple_of b m (e ∷ p)) h

module _ (a c : ℤ) (m : Monomial) (p : Polynomial) (b d : ℤ) (n : Monomial) (q : Polynomial) (left : IsFactor a p c)
    (right : IsFactor b q d) where
  pub outcome_same : combine_outcome c m p d n q ≡ combine_outcome a m p b n q
  outcome_same =
      λ i. first_breach (outcome (bound_same a c p left i + bound_same b d q right i) 0)
      (first_breach (scale_same a c m p left i) (scale_same b d n q right i))

  pub combination_same : combination c m p d n q ≡ combination a m p b n q
  combination_same = λ i. difference_of (multiple_same a c m p left i) (multiple_same b d n q right i)

-- a bound on the norm that is too great
pub too_great : (a : ℤ) (m : Monomial) (p : Polynomial) (b : ℤ) (n : Monomial) (q : Polynomial) →
    (MAX < unsigned_abs a * norm p) ⊎ (MAX < unsigned_abs b * norm q) → combine_outcome a m p b n q ≡ Outcome.Range
too_great a m p b n q h =
    let over : MAX < unsigned_abs a * norm p + unsigned_abs b * norm q =
    elim h [ inl x ↦ omega arith | inr x ↦ omega arith ] in
    ap (λ (o : Outcome). first_breach o (first_breach (scale_outcome a m p) (scale_outcome b n q)))
    (said (unsigned_abs a * norm p + unsigned_abs b * norm q) 0 Outcome.Range over)

some_size : (c : ℤ) → T (not (is_zero c)) → 1 ≤ unsigned_abs c
some_size (pos zero) h = absurd h
some_size (pos (suc n)) h = omega arith
some_size (negsuc n) h = omega arith

-- a polynomial with a term has a norm
some_norm : (p : Polynomial) → IsPoly nat_cmp p → p ≢ [] → 1 ≤ norm p
some_norm [] h k = absurd (k refl)
some_norm (e ∷ p) h k =
    let s = some_size e.1 (first (not (is_zero e.1)) _ h.polynomial.canonical.no_none) in omega (arith, norm-cons e p)

-- the least number of its type is too great a factor of anything but zero
pub least_is_great : (c : ℤ) (p : Polynomial) → IsPoly nat_cmp p → p ≢ [] → c ≡ negsuc (2 ^ 127 - 1) →
    MAX < unsigned_abs c * norm p
least_is_great c p h k e =
    at_least (unsigned_abs c) (norm p) (ap unsigned_abs e) (some_norm p h k)
  where
    at_least : (x y : ℕ) → x ≡ 2 ^ 127 → 1 ≤ y → MAX < x * y
    at_least x y e h = grind arith
