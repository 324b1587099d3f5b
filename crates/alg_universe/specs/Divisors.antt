-- Common divisors: the greatest one of a fraction's parts, and Euclid's lemma.
use Rattle.std.specs.Prelude.{◌≡◌, ◌≤◌, ◌<◌, ◌+◌, ◌*◌, ◌/◌, ◌%◌, ◌==◌, ◌&&◌, ◌⊎◌, ℕ, zero, suc, Bool, true, false, refl, if◌then◌else◌}
use Rattle.std.specs.Int.{◌∣◌}
use Rattle.std.proofs.Common.{sym, ap, subst, inl, inr, arith}
use Rattle.std.proofs.Math.Nat.{eq_of_mul-eq-mul_right, div-add-mod, div-mul_cancel, dvd_refl, one-dvd, dvd-mul_left, dvd-mul_right, dvd-add, dvd-mul_left_of_dvd, dvd-add_iff_right, dvd_of_mod-eq-zero, mod-eq-zero_of_dvd, mod-lt}
use borrow.Author.Tests.{eqb-true}
use Rattle.alg_universe.specs.Fractions.{divisor_to}

-- no number but 1 divides both
abbrev pub AreCoprime : ℕ → ℕ → Type 0
AreCoprime a b = (d : ℕ) → d ∣ a → d ∣ b → d ≡ 1

by_both : (p q : Bool) (x y : ℕ) (P : ℕ → Type 0) → (p ≡ true → q ≡ true → P x) → ((p ≡ true → q ≡ true → ⊥) → P y) →
    P (if p && q then x else y)
by_both true true x y P pass fail = pass refl refl
by_both true false x y P pass fail = fail (λ e f. cc)
by_both false q x y P pass fail = fail (λ e f. cc)

divides_if : (d n : ℕ) → (n % d == 0) ≡ true → d ∣ n
divides_if d n h = dvd_of_mod-eq-zero d (eqb-true (n % d) 0 h)

test_if : (d n : ℕ) → d ∣ n → (n % d == 0) ≡ true
test_if d n h = ap (λ w. w == 0) (mod-eq-zero_of_dvd d h)

pub divisor_to_left : (n a b : ℕ) → divisor_to n a b ∣ a
divisor_to_left zero a b = one-dvd a
divisor_to_left (suc n) a b =
    by_both (a % suc n == 0) (b % suc n == 0) (suc n) (divisor_to n a b) (λ w. w ∣ a) (λ e f. divides_if (suc n) a e)
    (λ ne. divisor_to_left n a b)

pub divisor_to_right : (n a b : ℕ) → divisor_to n a b ∣ b
divisor_to_right zero a b = one-dvd b
divisor_to_right (suc n) a b =
    by_both (a % suc n == 0) (b % suc n == 0) (suc n) (divisor_to n a b) (λ w. w ∣ b) (λ e f. divides_if (suc n) b f)
    (λ ne. divisor_to_right n a b)

pub divisor_to_greatest : (n a b d : ℕ) → d ≤ n → d ∣ a → d ∣ b → d ≤ divisor_to n a b
divisor_to_greatest zero a b d le h l = omega arith
divisor_to_greatest (suc n) a b d le h l =
    by_both (a % suc n == 0) (b % suc n == 0) (suc n) (divisor_to n a b) (λ w. d ≤ w) (λ e f. le)
    (λ ne. elim (less n d le) [
      | inl e ↦ absurd (ne (test_if (suc n) a (subst (λ w. w ∣ a) e h)) (test_if (suc n) b (subst (λ w. w ∣ b) e l)))
      | inr below ↦ divisor_to_greatest n a b d below h l
    ])
  where
    less : (n d : ℕ) → d ≤ suc n → (d ≡ suc n) ⊎ (d ≤ n)
    less n d h = grind arith

none_or_some : (r : ℕ) → (r ≡ 0) ⊎ (1 ≤ r)
none_or_some zero = inl refl
none_or_some (suc r) = inr (omega arith)

-- one step of Euclid's lemma: b divides r * d with the remainder r of a by b, and r divides the quotient
step : (b r d : ℕ) → 1 ≤ r → (h : b ∣ r * d) → r ∣ r * d / b → b ∣ d
step b r d some h l =
    let m = r * d / b in
    let quotient : m * b ≡ r * d = div-mul_cancel b h in
    let part : m / r * r ≡ m = div-mul_cancel r l in
    let is : d ≡ m / r * b =
    eq_of_mul-eq-mul_right r (omega arith) d (m / r * b) (omega (arith, quotient, ap (λ w. w * b) part))
    in
    subst (λ w. b ∣ w) (sym is) (dvd-mul_left b (m / r))

-- what divides a product and is coprime to one factor divides the other
pub euclid : (fuel a b d : ℕ) → 1 ≤ b → b ≤ fuel → AreCoprime a b → b ∣ a * d → b ∣ d
euclid zero a b d some le coprime h = absurd (omega arith)
euclid (suc fuel) a b d some le coprime h =
    let r = a % b in
    let whole : a / b * b + r ≡ a = omega (arith, div-add-mod a b) in
    elim (none_or_some r) [
      | inl e ↦ subst (λ w. w ∣ d) (sym (coprime b (dvd_of_mod-eq-zero b e) (dvd_refl b))) (one-dvd d)
      | inr more ↦
          let split : a * d ≡ a / b * d * b + r * d = omega (arith, ap (λ w. w * d) whole) in
          let rest : b ∣ r * d = (dvd-add_iff_right b (dvd-mul_left b (a / b * d))).1 (subst (λ w. b ∣ w) split h) in
          let m = r * d / b in
          let quotient : r * d ≡ b * m = omega (arith, div-mul_cancel b rest) in
          let common : AreCoprime b r =
          λ k f g. coprime k (subst (λ w. k ∣ w) whole (dvd-add k (dvd-mul_left_of_dvd k f (a / b)) g)) f
          in
          let below : r < b = mod-lt a (omega arith) in
          let product : r ∣ b * m = subst (λ w. r ∣ w) quotient (dvd-mul_right r d) in
          step b r d more rest (euclid fuel b r m more (omega arith) common product)
    ]
