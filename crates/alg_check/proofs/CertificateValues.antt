-- The polynomials that are zero at elements of a domain are a prime ideal.
use Rattle.std.specs.Prelude.{◌≡◌, ◌≢◌, ◌⊎◌, ◌≤◌, ◌≤ℤ◌, ℕ, zero, suc, ℤ, pos, negsuc, true, List, [], ◌∷◌, All}
use Rattle.std.proofs.lemmas.List.Elements.{All-head, All-tail}
use Rattle.std.proofs.Common.{refl, sym, ap, ◌∙◌, inl, inr, arith}
use Rattle.std.proofs.lemmas.Int.{ints}
use Rattle.std.specs.Ordering.{nat_cmp}
use Rattle.std.specs.FinMap.{nat_cmp-IsAntisymmetric}
use Rattle.alg_terms.specs.Kinds.{IsDomain}
use Rattle.alg_universe.specs.declared.universe.Universe.{Ghosts}
use Rattle.alg_universe.specs.Right.{ConstantHolds}
use Rattle.alg_mono.specs.Mono.{Monomial}
use Rattle.alg_mono.specs.Monomials.{mono_times}
use Rattle.alg_mono.specs.NumberedPolynomials.{Polynomial, term_of, difference_of, product_of, multiple_of, power_of}
use Rattle.alg_mono.specs.Polynomials.{poly_neg}
use Rattle.alg_mono.proofs.Numbers.{integer_laws}
use Rattle.alg_mono.proofs.TermOrder.{before_anti}
use Rattle.alg_meaning.proofs.Rings.{power, idr, times_none, opp_none}
use Rattle.alg_meaning.proofs.Evaluation.{mono_value, mono_value-times, poly_value, poly_value-plus, poly_value-neg, poly_value-term, poly_value-times, poly_value-power}
use Rattle.alg_meaning.proofs.Carriers.{Carrier, same, zero_at, one_at, add_at, mul_at, opp_at, ring_at, semi_at, int_at, numbering_at, int_below, power_below}
use Rattle.alg_reify.specs.Preparing.{times_each}
use Rattle.alg_check.specs.Certificates.{mono_at, poly_at, IsZeroAt, CertificatesHold}
use Rattle.alg_check.proofs.Primes.{IsPrime, certificate_leads}

module _ {E : Type 0} (u : Ghosts E) (s : ℕ) (domain : IsDomain (u.kind s)) (x : ℕ → E) (has : (k : ℕ) →
    u.has s (x k)) where
  abbrev pub atom : ℕ → Carrier u s
  atom k = (x k, has k)

  abbrev pub mono : Monomial → Carrier u s
  mono m = mono_value (semi_at u s) atom m

  abbrev pub at : Polynomial → Carrier u s
  at p = poly_value (semi_at u s) (int_at u s) mono p

  mono_below : (m : Monomial) → (mono m).0 ≡ mono_at u s x m
  mono_below [] = refl
  mono_below (e ∷ m) = λ i. u.mul s (power_below u s (atom e.0) e.1 i) (mono_below m i)

  pub poly_below : (p : Polynomial) → (at p).0 ≡ poly_at u s x p
  poly_below [] = refl
  poly_below (e ∷ p) = λ i. u.add s (u.mul s (int_below u s e.1 i) (mono_below e.0 i)) (poly_below p i)

  pub above : (p : Polynomial) → IsZeroAt u s x p → at p ≡ zero_at u s
  above p z = same u s (at p) (zero_at u s) (poly_below p ∙ z)

  pub below : (p : Polynomial) → at p ≡ zero_at u s → IsZeroAt u s x p
  below p e = sym (poly_below p) ∙ ap (λ z. z.0) e

  pub no_divisors : (a b : Carrier u s) → mul_at u s a b ≡ zero_at u s → (a ≡ zero_at u s) ⊎ (b ≡ zero_at u s)
  no_divisors a b e =
      elim (u.laws.no_divisors s a.0 b.0 domain a.1 b.1 (ap (λ z. z.0) e)) [
        | inl z ↦ inl (same u s a (zero_at u s) z)
        | inr z ↦ inr (same u s b (zero_at u s) z)
      ]

  pub times_mono : (m n : Monomial) → mono (mono_times nat_cmp m n) ≡ mul_at u s (mono m) (mono n)
  times_mono m n = mono_value-times (semi_at u s) atom nat_cmp-IsAntisymmetric m n

  at_multiple : (c : ℤ) (m : Monomial) (p : Polynomial) →
      at (multiple_of c m p) ≡ mul_at u s (mul_at u s (int_at u s c) (mono m)) (at p)
  at_multiple c m p =
      poly_value-times before_anti integer_laws (numbering_at u s) mono (mono_times nat_cmp) times_mono (term_of m c) p
      ∙ ap (λ z. mul_at u s z (at p)) (poly_value-term before_anti integer_laws (numbering_at u s) mono m c)

  pub at_difference : (p q : Polynomial) → at (difference_of p q) ≡ add_at u s (at p) (opp_at u s (at q))
  at_difference p q =
      poly_value-plus before_anti integer_laws (numbering_at u s) mono p (poly_neg q)
      ∙ ap (add_at u s (at p)) (poly_value-neg (semi_at u s) (opp_at u s) (ring_at u s) mono q)

  difference : (p q : Polynomial) → IsZeroAt u s x p → IsZeroAt u s x q → IsZeroAt u s x (difference_of p q)
  difference p q zp zq =
      below (difference_of p q) (at_difference p q ∙ (λ i. add_at u s (above p zp i) (opp_at u s (above q zq i)))
      ∙ (ring_at u s).opposite (zero_at u s))

  first : (p q : Polynomial) → IsZeroAt u s x (difference_of p q) → IsZeroAt u s x q → IsZeroAt u s x p
  first p q zd zq =
      below p (sym (idr (ring_at u s) (at p))
      ∙ ap (add_at u s (at p)) (sym (opp_none (ring_at u s)) ∙ ap (opp_at u s) (sym (above q zq)))
      ∙ sym (at_difference p q) ∙ above (difference_of p q) zd)

  multiple : (c : ℤ) (m : Monomial) (p : Polynomial) → IsZeroAt u s x p → IsZeroAt u s x (multiple_of c m p)
  multiple c m p zp =
      let factor = mul_at u s (int_at u s c) (mono m) in
      below (multiple_of c m p) (at_multiple c m p ∙ ap (mul_at u s factor) (above p zp)
      ∙ times_none (ring_at u s) factor)

  times_one : (a : Carrier u s) → mul_at u s a (one_at u s) ≡ a
  times_one a = (ring_at u s).product.comm a (one_at u s) ∙ (ring_at u s).product.idl a

  number_not_zero : (c : ℤ) (p : Polynomial) → ConstantHolds u s c → IsZeroAt u s x (multiple_of c [] p) →
      IsZeroAt u s x p
  number_not_zero c p some z =
      elim (no_divisors (mul_at u s (int_at u s c) (one_at u s)) (at p) (sym (at_multiple c [] p)
      ∙ above (multiple_of c [] p) z)) [
        | inl none ↦ absurd (some (sym (int_below u s c) ∙ ap (λ w. w.0) (sym (times_one (int_at u s c)) ∙ none)))
        | inr none ↦ below p none
      ]

  root : (a : Carrier u s) (n : ℕ) → power (one_at u s) (mul_at u s) a n ≡ zero_at u s → a ≡ zero_at u s
  root a zero e = absurd (u.laws.one_not_zero s domain (ap (λ z. z.0) e))
  root a (suc n) e =
      elim (no_divisors a (power (one_at u s) (mul_at u s) a n) e) [ inl none ↦ none | inr none ↦ root a n none ]

  power_root : (p : Polynomial) (n : ℕ) → IsZeroAt u s x (power_of p n) → IsZeroAt u s x p
  power_root p n z =
      below p (root (at p) n
      (sym (poly_value-power before_anti integer_laws (numbering_at u s) mono (mono_times nat_cmp) times_mono [] refl p
      n) ∙ above (power_of p n) z))

  prime : IsPrime (IsZeroAt u s x) (ConstantHolds u s)
  prime = record {
    at_zero = refl;
    at_difference = difference;
    at_first = first;
    at_multiple = multiple;
    at_number = number_not_zero;
    at_power = power_root;
  }

  product_zero : (p q : Polynomial) → IsZeroAt u s x (product_of p q) → IsZeroAt u s x p ⊎ IsZeroAt u s x q
  product_zero p q z =
      elim (no_divisors (at p) (at q) (sym (poly_value-times before_anti integer_laws (numbering_at u s) mono
      (mono_times nat_cmp) times_mono p q) ∙ above (product_of p q) z)) [
        | inl none ↦ inl (below p none)
        | inr none ↦ inr (below q none)
      ]

  -- where a product is zero and none of the later factors is, the first is
  pub first_of_product : (p : Polynomial) (qs : List Polynomial) → All (λ q. poly_at u s x q ≢ u.zero s) qs →
      IsZeroAt u s x (times_each p qs) → IsZeroAt u s x p
  first_of_product p [] some z = z
  first_of_product p (q ∷ qs) some z =
      let Some : Polynomial → Type 0 = λ r. poly_at u s x r ≢ u.zero s in
      elim (product_zero p q (first_of_product (product_of p q) qs (All-tail Some q qs some) z)) [
        | inl none ↦ none
        | inr none ↦ absurd (All-head Some q qs some none)
      ]

  one_holds : ConstantHolds u s (pos 1)
  one_holds e =
      u.laws.one_not_zero s domain (sym (u.laws.add_zero s (u.one s) (u.laws.has_one s)) ∙ e)

  all_hold : u.char0 s ≡ true → (c : ℤ) → pos 1 ≤ℤ c → ConstantHolds u s c
  all_hold char (pos n) h = let k : 1 ≤ n = omega (arith, ints) in u.laws.ones_not_zero s n char domain k
  all_hold char (negsuc n) h = absurd (omega (arith, ints))

pub certificates_hold : {E : Type 0} (u : Ghosts E) → CertificatesHold u
certificates_hold u s domain x has hyps goal cert accepted char0 char zeros some =
    certificate_leads (prime u s domain x has) (one_holds u s domain x has) hyps goal cert accepted char0
    (λ is. all_hold u s domain x has (char is)) zeros some
