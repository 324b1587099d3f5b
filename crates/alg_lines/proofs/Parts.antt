-- Where both parts of a combination are within the limits, so is their difference.
use Rattle.std.specs.Prelude.{◌≡◌, ◌≢◌, ◌+◌, ◌*◌, ◌≤◌, ◌||◌, ◌==◌, ℕ, false, zero, suc, cond, [], ◌∷◌, ℤ, pos, negsuc, Result, Ok, Err, IfOk, IfErr}
use Rattle.std.proofs.Common.{refl, sym, ap, subst, ◌∙◌, ◌⊎◌, inl, inr, arith}
use Rattle.std.proofs.lemmas.Int.{ints}
use Rattle.std.proofs.lemmas.Bool.Decides.{nat_tests}
use Rattle.std.proofs.Math.IntN.{neg_ℤ-neg_ℤ}
use lib.IntN.{neg_ℤ, ℤ_discrete}
use Rattle.std.specs.Int.RustNames.{unsigned_abs}
use Rattle.std.specs.Ordering.{nat_cmp}
use Rattle.alg_mono.specs.Monomials.{mono_times, degree, MAX_DEGREE}
use Rattle.alg_mono.specs.Outcomes.{Outcome, outcome, first_breach, is_nothing, sum_outcome, scale_outcome, combine_outcome}
use Rattle.alg_mono.specs.Polynomials.{IsPolynomial, MAX, norm, poly_degree, poly_neg}
use Rattle.alg_mono.specs.Refusals.{RefusesWith}
use Rattle.alg_mono.specs.declared.ends.Overrun.{Overrun}
use Rattle.alg_mono.specs.declared.ends.Overrun.TheVariants.{Range, Degree, NoMemory}
use Rattle.alg_mono.proofs.Norms.{norm-poly_scale}
use Rattle.alg_mono.specs.Numbers.{integers, is_zero}
use Rattle.alg_mono.proofs.Integers.{neg_ℤ-*ℤ}
use Rattle.alg_mono.proofs.Powers.{one_product}
use Rattle.alg_poly.specs.declared.poly.Poly.{Poly}
use Rattle.alg_poly.proofs.Zeros.{multiple_is_row}
use Rattle.alg_mono.proofs.Outcomes.{said}
use Rattle.alg_mono.specs.Mono.{Monomial}
use Rattle.alg_mono.specs.NumberedPolynomials.{Polynomial, before, row_of, multiple_of}

pub parts_add : (left : Polynomial) (c : ℤ) (n : Monomial) (q : Polynomial) →
    norm left + unsigned_abs c * norm q ≤ MAX → sum_outcome left (multiple_of c n q) ≡ Outcome.Fine
parts_add left c n q h =
    said (norm left + norm (multiple_of c n q)) 0 Outcome.Fine
    (omega (arith, norm-poly_scale before (mono_times nat_cmp) c n q), omega arith)

IsFine : Outcome → Type 0
IsFine Outcome.Fine = Unit {0}
IsFine Outcome.Range = ⊥
IsFine Outcome.Degree = ⊥

-- what breaks no rule is refused for want of memory alone, and that tells nothing
pub tells_nothing : (e : Overrun) (o other : Outcome) → o ≡ Outcome.Fine → RefusesWith e o → RefusesWith e other
unfolding IsFine
tells_nothing Range o other f t = absurd (subst IsFine (sym f ∙ t) tt)
tells_nothing Degree o other f t = absurd (subst IsFine (sym f ∙ t) tt)
tells_nothing NoMemory o other f t = tt

pub refused : {A : Type 0} (r : Result A Overrun) (o other : Outcome) → o ≡ Outcome.Fine →
    IfErr r (λ e. RefusesWith e o) → IfErr r (λ e. RefusesWith e other)
refused (Ok x) o other f t = tt
refused (Err e) o other f t = tells_nothing e o other f t

-- ---- the part that is taken away
zero_or_not : (b : ℤ) → (b ≡ pos 0) ⊎ (b ≢ pos 0)
zero_or_not b = elim (ℤ_discrete b (pos 0)) [ yes e ↦ inl e | no n ↦ inr n ]

row_opposite : (b : ℤ) (n : Monomial) (q : Polynomial) → row_of n (neg_ℤ b) q ≡ poly_neg (row_of n b q)
row_opposite b n [] = refl
row_opposite b n (e ∷ q) = λ i. (mono_times nat_cmp n e.0, neg_ℤ-*ℤ b e.1 i) ∷ row_opposite b n q i

none_of : (n : Monomial) (q : Polynomial) → multiple_of (pos 0) n q ≡ poly_neg (multiple_of (pos 0) n q)
none_of n q = refl

-- what is made is also the second, where it equals the first
pub made : (r : Result Poly Overrun) (s t : Polynomial) → s ≡ t → IfOk r (λ x. x ≡ s) → IfOk r (λ x. x ≡ t)
made (Ok x) s t e h = h ∙ e
made (Err x) s t e h = tt

pub fine_made : (r : Result Poly Overrun) (o p : Outcome) → o ≡ p → IfOk r (λ _. o ≡ Outcome.Fine) →
    IfOk r (λ _. p ≡ Outcome.Fine)
fine_made (Ok x) o p e h = sym e ∙ h
fine_made (Err x) o p e h = tt

pub always_fine : (r : Result Poly Overrun) (o : Outcome) → o ≡ Outcome.Fine → IfOk r (λ _. o ≡ Outcome.Fine)
always_fine (Ok x) o h = h
always_fine (Err x) o h = tt

pub told : (r : Result Poly Overrun) (o p : Outcome) → o ≡ p → IfErr r (λ e. RefusesWith e o) → IfErr r (λ e. RefusesWith e p)
told (Ok x) o p e h = tt
told (Err x) o p e h = subst (RefusesWith x) e h

pub opposite_multiple : (b : ℤ) (n : Monomial) (q : Polynomial) → IsPolynomial nat_cmp integers q →
    multiple_of (neg_ℤ b) n q ≡ poly_neg (multiple_of b n q)
opposite_multiple b n q h =
    elim (zero_or_not b) [
      | inl e ↦ subst (λ (c : ℤ). multiple_of (neg_ℤ c) n q ≡ poly_neg (multiple_of c n q)) (sym e) (none_of n q)
      | inr some ↦
          multiple_is_row (neg_ℤ b) n q (λ e. some (sym (neg_ℤ-neg_ℤ b) ∙ ap neg_ℤ e)) h ∙ row_opposite b n q
          ∙ ap poly_neg (sym (multiple_is_row b n q some h))
    ]

pub opposite_magnitude : (b : ℤ) → unsigned_abs (neg_ℤ b) ≡ unsigned_abs b
opposite_magnitude b = omega (arith, ints)

opposite_zero : (b : ℤ) → is_zero (neg_ℤ b) ≡ is_zero b
opposite_zero (pos zero) = refl
opposite_zero (pos (suc n)) = some n
  where
    some : (n : ℕ) → false ≡ (suc n == 0)
    some n = grind (arith, nat_tests)
opposite_zero (negsuc n) = none n
  where
    none : (n : ℕ) → (suc n == 0) ≡ false
    none n = grind (arith, nat_tests)

pub opposite_outcome : (b : ℤ) (n : Monomial) (q : Polynomial) → scale_outcome (neg_ℤ b) n q ≡ scale_outcome b n q
opposite_outcome b n q = λ i.
    cond (opposite_zero b i || is_nothing q) Outcome.Fine
    (outcome (opposite_magnitude b i * norm q) (degree n + poly_degree q))

-- ---- the part that is not changed
pub one_multiple : (p : Polynomial) → IsPolynomial nat_cmp integers p → multiple_of (pos 1) [] p ≡ p
one_multiple p h = one_product p h

pub one_fine : (p : Polynomial) → norm p ≤ MAX → poly_degree p ≤ MAX_DEGREE → scale_outcome (pos 1) [] p ≡ Outcome.Fine
one_fine [] h g = refl
one_fine (e ∷ p) h g = said (1 * norm (e ∷ p)) (0 + poly_degree (e ∷ p)) Outcome.Fine (omega arith, omega arith)

-- ---- both
pub left_bound : (a : ℤ) (m : Monomial) (p left : Polynomial) (n : ℕ) → left ≡ multiple_of a m p →
    unsigned_abs a * norm p + n ≤ MAX → norm left + n ≤ MAX
left_bound a m p left n e h =
    let size = ap (λ (q : Polynomial). norm q) e in
    omega (arith, norm-poly_scale before (mono_times nat_cmp) a m p)

pub both_outcomes : (a : ℤ) (m : Monomial) (p : Polynomial) (b : ℤ) (n : Monomial) (q : Polynomial) →
    unsigned_abs a * norm p + unsigned_abs b * norm q ≤ MAX → scale_outcome a m p ≡ Outcome.Fine →
    scale_outcome b n q ≡ combine_outcome a m p b n q
both_outcomes a m p b n q h fine = sym (
    (λ i. first_breach (bound i) (first_breach (fine i) (scale_outcome b n q))))
  where
    bound : outcome (unsigned_abs a * norm p + unsigned_abs b * norm q) 0 ≡ Outcome.Fine
    bound = said (unsigned_abs a * norm p + unsigned_abs b * norm q) 0 Outcome.Fine (h, omega arith)
