-- The greatest common divisors of the definitions are those that the code finds.
use Rattle.std.specs.Prelude.{◌≡◌, ◌≢◌, not, ℕ, zero, suc, ◌%◌, ◌<◌, ◌≤◌, ◌==◌, ◌&&◌, Bool, true, false, cond, List, [], ◌∷◌, map, ℤ, pos, negsuc, ◌≤ℤ◌}
use Rattle.std.proofs.Common.{refl, sym, subst, ◌∙◌, T, arith}
use borrow.Author.Tests.{eqb-true, eq-eqb}
use native.Mathlib.Nat.{pos_of_dvd_of_pos}
use Rattle.std.specs.List.{list_all}
use Rattle.std.specs.Int.{IsGcd, ◌∣◌}
use Rattle.std.specs.Int.RustNames.{unsigned_abs}
use Rattle.std.proofs.lemmas.Nat.Gcd.{le_of_dvd, dvd_of_mod-eq-zero, mod-eq-zero_of_dvd}
use Rattle.std.proofs.lemmas.List.Elements.{All-nil, All-head, All-tail, All-cons}
use Rattle.alg_mono.specs.Numbers.{integers, is_zero}
use Rattle.alg_mono.specs.Polynomials.{IsPolynomial, norm}
use Rattle.alg_mono.proofs.Canonical.{first}
use Rattle.alg_mono.proofs.Norms.{norm-cons}
use Rattle.std.specs.Ordering.{nat_cmp}
use Rattle.alg_poly.specs.Divisors.{DividesEach, IsContent, times_number}
use Rattle.alg_poly.proofs.Cancelled.{over_times}
use Rattle.alg_mono.specs.Mono.{Monomial}
use Rattle.alg_mono.specs.NumberedPolynomials.{Polynomial}
use Rattle.alg_groebner.specs.Divisors.{greatest_up_to, common_divisor, common, content, over_number}

DividesAll : ℕ → List ℤ → Type 0
DividesAll d cs = list_all (λ c. unsigned_abs c % d == 0) cs ≡ true

both_true : (a b : Bool) → a ≡ true → b ≡ true → (a && b) ≡ true
both_true true b p q = q
both_true false b p q = p

first_true : (a b : Bool) → (a && b) ≡ true → a ≡ true
first_true true b p = refl
first_true false b p = p

second_true : (a b : Bool) → (a && b) ≡ true → b ≡ true
second_true true b p = p
second_true false b p = absurd (no p)
  where
    no : false ≡ true → ⊥
    no p = grind arith

all_more : (d : ℕ) (c : ℤ) (cs : List ℤ) → d ∣ unsigned_abs c → DividesAll d cs → DividesAll d (c ∷ cs)
unfolding DividesAll
all_more d c cs h t = both_true _ _ (eq-eqb (unsigned_abs c % d) 0 (mod-eq-zero_of_dvd d h)) t

all_first : (d : ℕ) (c : ℤ) (cs : List ℤ) → DividesAll d (c ∷ cs) → d ∣ unsigned_abs c
unfolding DividesAll
all_first d c cs t = dvd_of_mod-eq-zero d (eqb-true (unsigned_abs c % d) 0 (first_true _ _ t))

all_rest : (d : ℕ) (c : ℤ) (cs : List ℤ) → DividesAll d (c ∷ cs) → DividesAll d cs
unfolding DividesAll
all_rest d c cs t = second_true _ _ t

one_all : (cs : List ℤ) → DividesAll 1 cs
unfolding DividesAll
one_all [] = refl
one_all (c ∷ cs) = all_more 1 c cs (dvd_of_mod-eq-zero 1 (omega arith)) (one_all cs)

-- the greatest up to n divides all
greatest_divides : (n : ℕ) (cs : List ℤ) → DividesAll (greatest_up_to n cs) cs
unfolding DividesAll
greatest_divides zero cs = one_all cs
greatest_divides (suc n) cs =
    elim (list_all (λ c. unsigned_abs c % suc n == 0) cs) as (λ b. list_all (λ c. unsigned_abs c % suc n == 0) cs ≡ b →
    DividesAll (cond b (suc n) (greatest_up_to n cs)) cs) [
      | true ↦ λ e. e
      | false ↦ λ e. greatest_divides n cs
    ] refl

-- and is no less than another that does
greatest_least : (n d : ℕ) (cs : List ℤ) → d ≤ n → DividesAll d cs → d ≤ greatest_up_to n cs
unfolding DividesAll
greatest_least zero d cs h t = omega arith
greatest_least (suc n) d cs h t =
    elim (list_all (λ c. unsigned_abs c % suc n == 0) cs) as (λ b. list_all (λ c. unsigned_abs c % suc n == 0) cs ≡ b →
    d ≤ cond b (suc n) (greatest_up_to n cs)) [
      | true ↦ λ e. h
      | false ↦ λ e. greatest_least n d cs (omega (arith, other d n cs h t e)) t
    ] refl
  where
    no : false ≡ true → ⊥
    no p = grind arith

    other : (d n : ℕ) (cs : List ℤ) → d ≤ suc n → DividesAll d cs → list_all (λ c. unsigned_abs c % suc n == 0) cs ≡
        false → d ≢ suc n
    other d n cs h t e same = no (sym e ∙ subst (λ k. list_all (λ c. unsigned_abs c % k == 0) cs ≡ true) same t)

-- what divides all, and is divided by each that does
same_greatest : (c : ℤ) (cs : List ℤ) (g : ℕ) → 0 < unsigned_abs c → DividesAll g (c ∷ cs) →
    ((d : ℕ) → DividesAll d (c ∷ cs) → d ∣ g) → g ≡ common_divisor (c ∷ cs)
same_greatest c cs g some all greatest =
    let n = unsigned_abs c in
    let r = greatest_up_to n (c ∷ cs) in
    let divides = all_first g c cs all in
    let positive : 0 < g = pos_of_dvd_of_pos divides some in
    let up = greatest_least n g (c ∷ cs) (le_of_dvd some divides) all in
    let down = le_of_dvd positive (greatest r (greatest_divides n (c ∷ cs))) in
    omega arith

pub some_size : (v : ℤ) → v ≢ pos 0 → 0 < unsigned_abs v
some_size (pos zero) h = absurd (h refl)
some_size (pos (suc n)) h = omega arith
some_size (negsuc n) h = omega arith

pub common_is : (u v : ℤ) (g : ℕ) → u ≢ pos 0 → IsGcd (unsigned_abs u) (unsigned_abs v) g → g ≡ common u v
unfolding common DividesAll
common_is u v g some h =
    same_greatest u (v ∷ []) g (some_size u some) (all_more g u (v ∷ []) h.0 (all_more g v [] h.1 refl))
    (λ d t. h.2 d (all_first d u (v ∷ []) t) (all_first d v [] (all_rest d u (v ∷ []) t)))

pub common_small : (u v : ℤ) (g : ℕ) → u ≢ pos 0 → IsGcd (unsigned_abs u) (unsigned_abs v) g →
    (0 < g) × (g ≤ unsigned_abs u)
common_small u v g some h = (pos_of_dvd_of_pos h.0 (some_size u some), le_of_dvd (some_size u some) h.0)

numbers : Polynomial → List ℤ
numbers p = map (λ e. e.1) p

each_number : (d : ℕ) (p : Polynomial) → DividesEach d p → DividesAll d (numbers p)
unfolding numbers DividesAll
each_number d [] t = refl
each_number d (e ∷ p) t =
    all_more d e.1 (numbers p) (All-head (λ (y : Monomial × ℤ). d ∣ unsigned_abs y.1) e p t)
    (each_number d p (All-tail (λ (y : Monomial × ℤ). d ∣ unsigned_abs y.1) e p t))

number_each : (d : ℕ) (p : Polynomial) → DividesAll d (numbers p) → DividesEach d p
unfolding numbers DividesAll
number_each d [] t = All-nil (λ (y : Monomial × ℤ). d ∣ unsigned_abs y.1)
number_each d (e ∷ p) t =
    All-cons (λ (y : Monomial × ℤ). d ∣ unsigned_abs y.1) e p (all_first d e.1 (numbers p) t)
    (number_each d p (all_rest d e.1 (numbers p) t))

pub content_is : (e : Monomial × ℤ) (p : Polynomial) (g : ℕ) → e.1 ≢ pos 0 → IsContent (e ∷ p) g → g ≡ content (e ∷ p)
unfolding content numbers
content_is e p g some h =
    same_greatest e.1 (numbers p) g (some_size e.1 some) (each_number g (e ∷ p) h.divides)
    (λ d t. h.greatest d (number_each d (e ∷ p) t))

-- ---- exact quotients
pub quotient_is : (d : ℤ) (q : Polynomial) → pos 1 ≤ℤ d → over_number d (times_number d q) ≡ q
quotient_is d [] h = refl
quotient_is d (e ∷ q) h = λ i. (e.0, over_times d e.1 h i) ∷ quotient_is d q h i

-- the content divides each coefficient
pub content_divides : (p : Polynomial) → IsPolynomial nat_cmp integers p → (0 < content p) × DividesEach (content p) p
unfolding content numbers DividesAll
content_divides [] s = (omega arith, All-nil (λ (y : Monomial × ℤ). 1 ∣ unsigned_abs y.1))
content_divides (e ∷ p) s =
    let cs = e.1 ∷ numbers p in
    let g = greatest_up_to (unsigned_abs e.1) cs in
    let divides : DividesAll g cs = greatest_divides (unsigned_abs e.1) cs in
    let some : e.1 ≢ pos 0 = λ z. subst (λ (c : ℤ). T (not (is_zero c))) z
    (first (not (is_zero e.1)) _ s.canonical.no_none) in
    (pos_of_dvd_of_pos (all_first g e.1 (numbers p) divides) (some_size e.1 some), number_each g (e ∷ p) divides)

-- so does the common divisor of the leading coefficients
pub common_divides : (u v : ℤ) → v ≢ pos 0 → (0 < common u v) × (common u v ∣ unsigned_abs v)
unfolding common DividesAll
common_divides u v some =
    let g = common_divisor (u ∷ v ∷ []) in
    let divides : DividesAll g (u ∷ v ∷ []) = greatest_divides (unsigned_abs u) (u ∷ v ∷ []) in
    let second = all_first g v [] (all_rest g u (v ∷ []) divides) in
    (pos_of_dvd_of_pos second (some_size v some), second)

-- and it divides the first of them too
pub common_first : (u v : ℤ) → common u v ∣ unsigned_abs u
unfolding common DividesAll
common_first u v =
    all_first (common_divisor (u ∷ v ∷ [])) u (v ∷ []) (greatest_divides (unsigned_abs u) (u ∷ v ∷ []))

-- a content is within each bound on the norm
greatest_within : (n k : ℕ) (cs : List ℤ) → 1 ≤ k → n ≤ k → greatest_up_to n cs ≤ k
greatest_within zero k cs low h = low
greatest_within (suc n) k cs low h =
    elim (list_all (λ c. unsigned_abs c % suc n == 0) cs) as (λ b. cond b (suc n) (greatest_up_to n cs) ≤ k) [
      | true ↦ h
      | false ↦ greatest_within n k cs low (omega arith)
    ]

pub content_within : (p : Polynomial) (k : ℕ) → 1 ≤ k → norm p ≤ k → content p ≤ k
unfolding content numbers
content_within [] k low h = low
content_within (e ∷ p) k low h =
    greatest_within (unsigned_abs e.1) k (numbers (e ∷ p)) low (omega (arith, norm-cons e p, h))
