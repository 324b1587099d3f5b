-- The numbers and monomials of what is cancelled without breaking a rule are within the limits.
use Rattle.std.specs.Prelude.{◌≡◌, ◌≢◌, ℕ, zero, suc, ◌+◌, ◌*◌, ◌≤◌, ◌||◌, true, false, cond, [], ◌∷◌, ℤ, pos}
use Rattle.std.proofs.Common.{refl, arith}
use Rattle.std.specs.Int.RustNames.{unsigned_abs}
use Rattle.std.specs.Ordering.{nat_cmp}
use Rattle.std.proofs.lemmas.Int.{ints}
use Rattle.alg_mono.specs.FiniteMaps.{IsCanonical}
use Rattle.alg_mono.specs.Mono.{Monomial}
use Rattle.alg_mono.specs.Monomials.{MAX_DEGREE, degree, mono_times}
use Rattle.alg_mono.specs.Numbers.{exponents, integers, is_zero}
use Rattle.alg_mono.specs.NumberedPolynomials.{Polynomial, before, multiple_of}
use Rattle.alg_mono.specs.Outcomes.{Outcome, combine_outcome, outcome, scale_outcome}
use Rattle.alg_mono.specs.Polynomials.{IsPolynomial, MAX, norm, poly_degree}
use Rattle.alg_mono.proofs.Norms.{norm-cons, norm-poly_minus, norm-poly_scale}
use Rattle.alg_mono.proofs.Numbers.{is_zero_only}
use Rattle.alg_mono.proofs.Outcomes.{says_at}
use Rattle.alg_groebner.specs.Cancelling.{left_factor, right_factor, crossed, cancelled, cancel_outcome}
use Rattle.alg_groebner.specs.Leads.{leading}
use Rattle.alg_groebner.specs.Within.{HasAtoms, IsWithin}
use Rattle.alg_groebner.proofs.Certified.{both_fine}
use Rattle.alg_groebner.proofs.Coefficients.{left_some, right_some}
use Rattle.alg_groebner.proofs.Divisors.{content_within, some_size}
use Rattle.alg_groebner.proofs.Leading.{leading_some}

-- a polynomial that is not zero has a norm
norm_some : (p : Polynomial) → IsPolynomial nat_cmp integers p → p ≢ [] → 1 ≤ norm p
norm_some [] s h = absurd (h refl)
norm_some (e ∷ p) s h = omega (arith, norm-cons e p, some_size e.1 (leading_some (e ∷ p) s h))

le_times : (x y : ℕ) → 1 ≤ y → x ≤ x * y
le_times x zero h = absurd (omega arith)
le_times x (suc y) h = omega arith

-- the monomial of a multiple of what is not zero
scale_small : (c : ℤ) (m : Monomial) (p : Polynomial) → c ≢ pos 0 → p ≢ [] → scale_outcome c m p ≡ Outcome.Fine →
    degree m ≤ MAX_DEGREE
scale_small c m [] some there f = absurd (there refl)
scale_small c m (e ∷ p) some there f =
    elim (is_zero c) as (λ z. is_zero c ≡ z → cond (z || false) Outcome.Fine
    (outcome (unsigned_abs c * norm (e ∷ p)) (degree m + poly_degree (e ∷ p))) ≡ Outcome.Fine →
    degree m ≤ MAX_DEGREE) [
      | true ↦ λ z g. absurd (some (is_zero_only c z))
      | false ↦ λ z g.
          let low = (says_at (unsigned_abs c * norm (e ∷ p)) (degree m + poly_degree (e ∷ p)) Outcome.Fine g).1 in
          omega arith
    ] refl f

module _ (m : Monomial) (p : Polynomial) (n : Monomial) (q : Polynomial) (left : IsPolynomial nat_cmp integers p)
    (right : IsPolynomial nat_cmp integers q) (some : p ≢ []) (other : q ≢ [])
    (fine : cancel_outcome m p n q ≡ Outcome.Fine) where
  abbrev a : ℤ
  a = left_factor (leading p) (leading q)

  abbrev b : ℤ
  b = right_factor (leading p) (leading q)

  parts : combine_outcome a m p b n q ≡ Outcome.Fine
  unfolding cancel_outcome
  parts = fine

  total : unsigned_abs a * norm p + unsigned_abs b * norm q ≤ MAX
  total = (says_at (unsigned_abs a * norm p + unsigned_abs b * norm q) 0 Outcome.Fine (both_fine _ _ parts).0).0

  scales : (scale_outcome a m p ≡ Outcome.Fine) × (scale_outcome b n q ≡ Outcome.Fine)
  scales = both_fine (scale_outcome a m p) (scale_outcome b n q) (both_fine _ _ parts).1

  crossed_small : norm (crossed m p n q) ≤ MAX
  crossed_small =
      let x = multiple_of a m p in
      let y = multiple_of b n q in
      omega (
        arith,
        norm-poly_minus before x y,
        norm-poly_scale before (mono_times nat_cmp) a m p,
        norm-poly_scale before (mono_times nat_cmp) b n q,
        total,
      )

  pub cancelled_within : (atoms : ℕ) → IsCanonical nat_cmp exponents m → HasAtoms atoms m →
      IsCanonical nat_cmp exponents n → HasAtoms atoms n →
      let c = cancelled m p n q in IsWithin atoms c.a m c.b n c.d
  unfolding cancelled
  cancelled_within atoms cm hm cn hn =
      let size = content_within (crossed m p n q) MAX (omega arith) crossed_small in
      let first = leading_some p left some in
      let second = leading_some q right other in
      record {
        first = (
          omega (arith, ints),
          omega (arith, total, le_times (unsigned_abs a) (norm p) (norm_some p left some)),
        );
        first_mono = record {
          mono = record {
            canonical = cm;
            small = scale_small a m p (left_some (leading p) (leading q) second) some scales.0;
          };
          atoms = hm;
        };
        second = omega (arith, total, le_times (unsigned_abs b) (norm q) (norm_some q right other));
        second_mono = record {
          mono = record {
            canonical = cn;
            small = scale_small b n q (right_some (leading p) (leading q) first) other scales.1;
          };
          atoms = hn;
        };
        divisor = (omega (arith, ints), size);
      }
