-- What the code combines and divides is what the definitions say.
use Rattle.std.specs.Prelude.{◌≡◌, ◌≢◌, [], ◌∷◌, ℤ, pos, negsuc, ◌≤ℤ◌}
use Rattle.std.proofs.Common.{refl, sym, ap, subst, ◌∙◌, T, arith}
use Rattle.std.specs.Int.RustNames.{unsigned_abs}
use Rattle.std.specs.Ordering.{nat_cmp}
use Rattle.std.proofs.lemmas.Int.{ints}
use Rattle.std.proofs.lemmas.List.Elements.{All-nil}
use Rattle.std.specs.Int.{◌∣◌}
use Rattle.alg_mono.specs.Numbers.{is_zero}
use Rattle.alg_mono.specs.Outcomes.{combine_outcome}
use Rattle.alg_mono.specs.Polynomials.{IsPoly}
use Rattle.alg_mono.proofs.Canonical.{first}
use Rattle.alg_poly.specs.Divisors.{IsContent, IsDivisible, times_number}
use Rattle.alg_mono.specs.Mono.{Monomial}
use Rattle.alg_mono.specs.NumberedPolynomials.{Polynomial}
use Rattle.alg_lines.specs.Lines.{combination}
use Rattle.alg_groebner.specs.Leads.{leading}
use Rattle.alg_groebner.specs.Cancelling.{left_factor, right_factor, cancelled, cancel_outcome}
use Rattle.alg_groebner.specs.Divisors.{content, over_number}
use Rattle.alg_groebner.proofs.Divisors.{content_is, quotient_is}

magnitude : (d : ℤ) → pos 1 ≤ℤ d → d ≡ pos (unsigned_abs d)
magnitude (pos n) h = refl
magnitude (negsuc n) h = absurd (omega (arith, ints))

-- the code's content is that of the definitions, and divides
pub content_number : (p : Polynomial) (d : ℤ) → IsPoly nat_cmp p → pos 1 ≤ℤ d →
    (p ≢ [] → IsContent p (unsigned_abs d)) → (p ≡ [] → d ≡ pos 1) → (d ≡ pos (content p)) × IsDivisible d p
unfolding content
content_number [] d h low some none = (
  none refl,
  (
    low,
    All-nil
        (λ (y : Monomial × ℤ). unsigned_abs d ∣ unsigned_abs y.1),
  ),
)
content_number (e ∷ p) d h low some none =
    let is = some (λ q. grind (arith)) in
    let lead : e.1 ≢ pos 0 = λ z. subst (λ (c : ℤ). T (Rattle.std.specs.Prelude.not (is_zero c))) z
    (first (Rattle.std.specs.Prelude.not (is_zero e.1)) _ h.polynomial.canonical.no_none) in
    (magnitude d low ∙ ap pos (content_is e p (unsigned_abs d) lead is), (low, is.divides))

module _ (m : Monomial) (p : Polynomial) (n : Monomial) (q : Polynomial) (u v a b : ℤ)
    (first_lead : u ≡ leading p) (second_lead : v ≡ leading q) (left : a ≡ left_factor u v)
    (right : b ≡ right_factor u v) where
  left_is : a ≡ left_factor (leading p) (leading q)
  left_is = left ∙ (λ i. left_factor (first_lead i) (second_lead i))

  right_is : b ≡ right_factor (leading p) (leading q)
  right_is = right ∙ (λ i. right_factor (first_lead i) (second_lead i))

  pub outcome_is : combine_outcome a m p b n q ≡ cancel_outcome m p n q
  unfolding cancel_outcome
  outcome_is = λ i. combine_outcome (left_is i) m p (right_is i) n q

  pub cancelled_is : (sum poly : Polynomial) (d : ℤ) → sum ≡ combination a m p b n q → d ≡ pos (content sum) →
      pos 1 ≤ℤ d → times_number d poly ≡ sum →
      record { a = a; b = b; d = d; poly = poly } ≡ cancelled m p n q
  unfolding cancelled
  cancelled_is sum poly d made divisor low exact =
      let whole = made ∙ (λ i. combination (left_is i) m p (right_is i) n q) in
      let number = divisor ∙ (λ i. pos (content (whole i))) in
      let quotient = sym (quotient_is d poly low) ∙ (λ i. over_number (number i) ((exact ∙ whole) i)) in
      λ i. record { a = left_is i; b = right_is i; d = number i; poly = quotient i }
