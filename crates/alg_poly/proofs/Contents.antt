-- The content of a list of terms, and exact quotients.
use Rattle.std.specs.Prelude.{◌≡◌, ◌≢◌, ℕ, zero, suc, Bool, false, ◌+◌, ◌*◌, ◌%◌, ◌<◌, ◌≤◌, ◌↔◌, not, ◌==◌, ◌&&◌, [], ◌∷◌, ◌++◌, take, length, ℤ, pos, negsuc, ◌+ℤ◌, ◌*ℤ◌, ◌≤ℤ◌, All, max}
use Rattle.std.proofs.Common.{get_or, refl, sym, ap, subst, ◌∙◌, T, arith}
use lib.IntN.{neg_ℤ, +ℤ_idr}
use Rattle.std.specs.Int.{IsGcd, ◌∣◌}
use Rattle.std.specs.Int.RustNames.{unsigned_abs, int_div, int_rem}
use Rattle.std.proofs.lemmas.Int.{ints, quot-rem, unsigned_abs-mul}
use Rattle.std.proofs.lemmas.Nat.Gcd.{dvd_trans, dvd-zero, le_of_dvd, dvd_of_mod-eq-zero, mod-eq-zero_of_dvd}
use Rattle.std.proofs.lemmas.List.{take_more}
use Rattle.std.proofs.lemmas.List.Elements.{All-nil, All-head, All-tail, All-cons, All-push, All-weaker, All-get_or, All-take}
use Rattle.std.specs.Ordering.{nat_cmp, is_lt}
use native.Mathlib.Nat.{mod-zero}
use Rattle.std.specs.FinMap.Entries.{below_all, is_sorted}
use Rattle.alg_mono.specs.FiniteMaps.{Each, IsCanonical, all_some}
use Rattle.alg_mono.specs.Monomials.{degree}
use Rattle.alg_mono.specs.Numbers.{exponents, integers, is_zero}
use Rattle.alg_mono.specs.Polynomials.{IsPoly, IsPolynomial, norm, poly_degree}
use Rattle.alg_mono.proofs.Canonical.{both, first, second}
use Rattle.alg_mono.proofs.Norms.{norm-cons}
use Rattle.alg_mono.proofs.Numbers.{*ℤ_comm}
use Rattle.alg_poly.specs.Divisors.{DividesEach, IsContent, times_number}
use Rattle.alg_mono.specs.Mono.{Monomial}
use Rattle.alg_mono.specs.NumberedPolynomials.{Polynomial, before}
use Rattle.alg_poly.proofs.Parts.{some_terms}
use Rattle.alg_mono.proofs.Rows.{some_number}

abbrev Term : Type 0
Term = Monomial × ℤ

-- ---- contents
-- of no term
pub no_content : IsContent [] 0
no_content = record { divides = All-nil (λ (e : Term). 0 ∣ unsigned_abs e.1); greatest = λ d h. dvd-zero d }

All-front : (P : Term → Type 0) (q : Polynomial) (y : Term) → All P (q ++ y ∷ []) → All P q × P y
All-front P [] y t = (All-nil P, All-head P y [] t)
All-front P (z ∷ q) y t =
    let r = All-front P q y (All-tail P z (q ++ y ∷ []) t) in
    (All-cons P z q (All-head P z (q ++ y ∷ []) t) r.0, r.1)

-- of one more term
pub content_more : (p : Polynomial) (i : ℕ) (x : Term) (g h : ℕ) → i < length p → x ≡ get_or p i x →
    IsContent (take i p) g → IsGcd g (unsigned_abs x.1) h → IsContent (take (i + 1) p) h
content_more p i x g h k e c d =
    let more : take (i + 1) p ≡ take i p ++ x ∷ [] = take_more p i x k ∙ ap (λ z. take i p ++ z ∷ []) (sym e) in
    let all = All-weaker (λ (y : Term). g ∣ unsigned_abs y.1) (λ (y : Term). h ∣ unsigned_abs y.1)
    (λ y t. dvd_trans h d.0 t) (take i p) c.divides in
    let content : IsContent (take i p ++ x ∷ []) h = record {
      divides = All-push (λ (y : Term). h ∣ unsigned_abs y.1) (take i p) x all d.1;
      greatest = λ n t.
          let parts = All-front (λ (y : Term). n ∣ unsigned_abs y.1) (take i p) x t in
          d.2 n (c.greatest n parts.0) parts.1;
    } in
    subst (λ q. IsContent q h) (sym more) content

one_divides : (n : ℕ) → 1 ∣ n
one_divides n = dvd_of_mod-eq-zero 1 (omega arith)

-- 1 divides each coefficient
pub one_divides_each : (p : Polynomial) → DividesEach 1 p
one_divides_each p = λ k d l. one_divides (unsigned_abs (get_or p k d).1)

-- where the first terms have the content 1, so have all
pub content_one : (p : Polynomial) (i : ℕ) → IsContent (take i p) 1 → IsContent p 1
content_one p i c = record {
  divides = one_divides_each p;
  greatest = λ d h. c.greatest d (All-take (λ (e : Term). d ∣ unsigned_abs e.1) i p h);
}

some_magnitude : (c : ℤ) → T (not (is_zero c)) → 0 < unsigned_abs c
some_magnitude (pos n) h = let e : n ≡ 0 → ⊥ = λ p. subst (λ b. T (not b)) (ap (λ m. m == 0) p) h in omega arith
some_magnitude (negsuc n) h = omega arith

-- the content of some terms is a positive number of at most their norm
pub content_small : (p : Polynomial) (g : ℕ) → p ≢ [] → IsCanonical before integers.amounts p → IsContent p g →
    (0 < g) × (g ≤ norm p)
content_small [] g some c h = absurd (some refl)
content_small (e ∷ p) g some c h =
    let divides = All-head (λ (y : Term). g ∣ unsigned_abs y.1) e p h.divides in
    let positive = some_magnitude e.1 (first _ _ c.no_none) in
    let small = le_of_dvd positive divides in
    (some_divisor g (unsigned_abs e.1) divides positive, omega (arith, norm-cons e p))
  where
    some_divisor : (g n : ℕ) → g ∣ n → 0 < n → 0 < g
    some_divisor zero n d h = let e : n ≡ 0 = sym (mod-zero n) ∙ mod-eq-zero_of_dvd zero d in absurd (omega arith)
    some_divisor (suc g) n d h = omega arith

-- ---- divisors
pub divides_each : (d : ℕ) (p : Polynomial) →
    All (λ (e : Term). unsigned_abs e.1 % d ≡ 0) p ↔ DividesEach d p
divides_each d p = (
  All-weaker (λ (e : Term). unsigned_abs e.1 % d ≡ 0) (λ (e : Term). d ∣ unsigned_abs e.1)
      (λ e h. dvd_of_mod-eq-zero d h) p,
  All-weaker (λ (e : Term). d ∣ unsigned_abs e.1) (λ (e : Term). unsigned_abs e.1 % d ≡ 0)
      (λ e h. mod-eq-zero_of_dvd d h) p,
)

-- ---- quotients
no_remainder : (a d : ℤ) → unsigned_abs a % unsigned_abs d ≡ 0 → int_rem a d ≡ pos 0
no_remainder (pos a) d h = ap pos h
no_remainder (negsuc a) d h = ap (λ n. neg_ℤ (pos n)) h

-- d times the quotient of a multiple
pub exact_quotient : (a d : ℤ) → unsigned_abs d ∣ unsigned_abs a → d *ℤ int_div a d ≡ a
exact_quotient a d h =
    *ℤ_comm d (int_div a d) ∙ sym (+ℤ_idr (int_div a d *ℤ d))
    ∙ ap (λ z. (int_div a d *ℤ d) +ℤ z) (sym (no_remainder a d (mod-eq-zero_of_dvd (unsigned_abs d) h)))
    ∙ quot-rem a d

times_number-append : (d : ℤ) (p : Polynomial) (x : Term) →
    times_number d (p ++ x ∷ []) ≡ times_number d p ++ (x.0, d *ℤ x.1) ∷ []
times_number-append d [] x = refl
times_number-append d (e ∷ p) x = ap (λ r. (e.0, d *ℤ e.1) ∷ r) (times_number-append d p x)

-- one more quotient
pub quotient_more : (d : ℤ) (p out : Polynomial) (i : ℕ) (x : Term) → i < length p → x ≡ get_or p i x →
    DividesEach (unsigned_abs d) p → times_number d out ≡ take i p →
    times_number d (out ++ (x.0, int_div x.1 d) ∷ []) ≡ take (i + 1) p
quotient_more d p out i x k e h s =
    let divides : unsigned_abs d ∣ unsigned_abs x.1 =
    subst (λ (y : Term). unsigned_abs d ∣ unsigned_abs y.1) (sym e)
    (All-get_or (λ (y : Term). unsigned_abs d ∣ unsigned_abs y.1) p i x k h) in
    times_number-append d out (x.0, int_div x.1 d)
    ∙ (λ j. s j ++ (x.0, exact_quotient x.1 d divides j) ∷ [])
    ∙ sym (take_more p i x k ∙ ap (λ z. take i p ++ z ∷ []) (sym e))

-- ---- what d times is a polynomial within the limits is one
zero_times : (d : ℤ) → d *ℤ pos 0 ≡ pos 0
zero_times d = omega (arith, ints)

module _ (d : ℤ) where
  below_times : (m : Monomial) (p : Polynomial) → below_all before m (times_number d p) ≡ below_all before m p
  below_times m [] = refl
  below_times m (e ∷ p) = ap (λ b. is_lt (before m e.0) && b) (below_times m p)

  sorted_times : (p : Polynomial) → is_sorted before (times_number d p) ≡ is_sorted before p
  sorted_times [] = refl
  sorted_times (e ∷ p) = λ i. below_times e.0 p i && sorted_times p i

  some_times : (p : Polynomial) → T (all_some before integers.amounts (times_number d p)) →
      T (all_some before integers.amounts p)
  some_times [] h = tt
  some_times (e ∷ p) h =
      both _ _ (some_number e.1 (λ is. subst (λ b. T (not b)) (ap is_zero (ap (λ z. d *ℤ z) is ∙ zero_times d))
      (first _ _ h)))
      (some_times p (second _ _ h))

  each_times : (P : Monomial → Type 0) (p : Polynomial) → Each P (times_number d p) → Each P p
  each_times P [] h = tt
  each_times P (e ∷ p) h = (h.0, each_times P p h.1)

  degree_times : (p : Polynomial) → poly_degree (times_number d p) ≡ poly_degree p
  degree_times [] = refl
  degree_times (e ∷ p) = ap (max (degree e.0)) (degree_times p)

  norm_times : (p : Polynomial) → norm (times_number d p) ≡ unsigned_abs d * norm p
  norm_times [] = omega arith
  norm_times (e ∷ p) =
      norm-cons (e.0, d *ℤ e.1) (times_number d p)
      ∙ (λ i. unsigned_abs-mul d e.1 i + norm_times p i)
      ∙ spread (unsigned_abs d) (unsigned_abs e.1) (norm p)
      ∙ ap (λ n. unsigned_abs d * n) (sym (norm-cons e p))
    where
      spread : (a b n : ℕ) → a * b + a * n ≡ a * (b + n)
      spread a b n = omega arith

  pub IsPolynomial-from_times : (p : Polynomial) → IsPolynomial nat_cmp integers (times_number d p) →
      IsPolynomial nat_cmp integers p
  IsPolynomial-from_times p c = record {
    canonical = record {
      rises = subst T (sorted_times p) c.canonical.rises;
      no_none = some_times p c.canonical.no_none;
    };
    monomials = each_times (λ m. IsCanonical nat_cmp exponents m) p c.monomials;
  }

  pub IsPoly-from_times : (p : Polynomial) → pos 1 ≤ℤ d → IsPoly nat_cmp (times_number d p) → IsPoly nat_cmp p
  IsPoly-from_times p h c = record {
    polynomial = IsPolynomial-from_times p c.polynomial;
    bounded = let b = c.bounded in omega (arith, norm_times p, grown (unsigned_abs d) (norm p) (omega (arith, ints)));
    small = let s = c.small in omega (arith, degree_times p);
  }
    where
      grown : (a n : ℕ) → 1 ≤ a → n ≤ a * n
      grown a n h = grind arith

-- a list with a length is not empty
pub some_length : (p q : Polynomial) (n : ℕ) (b : Bool) → length p ≡ n → p ≡ q → b ≡ (n == 0) → b ≡ false → q ≢ []
some_length p q n b l is e f none =
    let some = some_terms n b e f in
    omega (arith, ap (λ (r : Polynomial). length r) (is ∙ none))
