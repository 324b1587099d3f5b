-- Further laws of the integers: zero products, negation, and what brings sums of products into one order.
use Rattle.std.specs.Prelude.{◌≡◌, ◌⊎◌, ◌≤◌, ◌+◌, ◌*◌, ℕ, zero, suc, ℤ, pos, negsuc, ◌+ℤ◌, ◌*ℤ◌, refl}
use Rattle.std.proofs.Common.{sym, ◌∙◌, ap, inl, inr, arith}
use Rattle.std.proofs.Math.IntN.{neg_ℤ, nat_abs, +ℤ_assoc, +ℤ_comm, pos-*ℤ-pos, negsuc-*ℤ-pos}
use Rattle.std.proofs.Math.Nat.{mul_assoc, mul_comm, mul_left_comm, eq_of_mul-eq-mul_right}
use Rattle.std.proofs.lemmas.Int.{ints}
use borrow.Author.Differences.{up, down, same_in, neg_is}
use Rattle.alg_mono.proofs.Numbers.{*ℤ_assoc, *ℤ_comm, *ℤ_dist}

-- a product is zero only where a factor is
pub *ℤ-eq-zero : (x y : ℤ) → x *ℤ y ≡ pos 0 → (x ≡ pos 0) ⊎ (y ≡ pos 0)
*ℤ-eq-zero (pos zero) y h = inl refl
*ℤ-eq-zero x (pos zero) h = inr refl
*ℤ-eq-zero (pos (suc m)) (pos (suc n)) h = absurd (grind (arith, ints, h))
*ℤ-eq-zero (pos (suc m)) (negsuc n) h = absurd (grind (arith, ints, h))
*ℤ-eq-zero (negsuc m) (pos (suc n)) h = absurd (grind (arith, ints, h))
*ℤ-eq-zero (negsuc m) (negsuc n) h = absurd (grind (arith, ints, h))

pub *ℤ-one : (x : ℤ) → x *ℤ pos 1 ≡ x
*ℤ-one x = omega (arith, ints)

pub neg_ℤ-*ℤ : (x y : ℤ) → neg_ℤ x *ℤ y ≡ neg_ℤ (x *ℤ y)
neg_ℤ-*ℤ x y = omega (
  arith,
  ints,
  ap (λ (n : ℕ). n * up y) (neg_is x).0,
  ap (λ (n : ℕ). n * down y) (neg_is x).0,
  ap (λ (n : ℕ). n * up y) (neg_is x).1,
  ap (λ (n : ℕ). n * down y) (neg_is x).1,
)

pub +ℤ-*ℤ : (x y z : ℤ) → (x +ℤ y) *ℤ z ≡ x *ℤ z +ℤ y *ℤ z
+ℤ-*ℤ x y z =
    *ℤ_comm (x +ℤ y) z ∙ *ℤ_dist z x y ∙ ap (λ w. w +ℤ z *ℤ y) (*ℤ_comm z x) ∙ ap (λ w. x *ℤ z +ℤ w) (*ℤ_comm z y)

pub *ℤ_left_comm : (x y z : ℤ) → x *ℤ (y *ℤ z) ≡ y *ℤ (x *ℤ z)
*ℤ_left_comm x y z = sym (*ℤ_assoc x y z) ∙ ap (λ w. w *ℤ z) (*ℤ_comm x y) ∙ *ℤ_assoc y x z

pub +ℤ_left_comm : (x y z : ℤ) → x +ℤ (y +ℤ z) ≡ y +ℤ (x +ℤ z)
+ℤ_left_comm x y z = sym (+ℤ_assoc x y z) ∙ ap (λ w. w +ℤ z) (+ℤ_comm x y) ∙ +ℤ_assoc y x z

-- what brings sums of products into one order
pub ruleset products = (
  pos-*ℤ-pos,
  mul_assoc,
  mul_comm,
  mul_left_comm,
  *ℤ_dist,
  +ℤ-*ℤ,
  *ℤ_assoc,
  *ℤ_comm,
  *ℤ_left_comm,
  +ℤ_assoc,
  +ℤ_comm,
  +ℤ_left_comm,
)

-- a positive factor can be taken away
pub *ℤ-cancel : (x y : ℤ) (d : ℕ) → 1 ≤ d → x *ℤ pos d ≡ y *ℤ pos d → x ≡ y
*ℤ-cancel x y d some h =
    same_in x y (eq_of_mul-eq-mul_right d (omega arith) (up x + down y) (up y + down x) (omega (arith, ints, h)))

pub nat_abs-neg : (n : ℕ) → nat_abs (neg_ℤ (pos n)) ≡ n
nat_abs-neg zero = refl
nat_abs-neg (suc n) = refl

pub nat_abs-*ℤ : (x : ℤ) (d : ℕ) → nat_abs (x *ℤ pos d) ≡ nat_abs x * d
nat_abs-*ℤ (pos n) d = ap nat_abs (pos-*ℤ-pos n d)
nat_abs-*ℤ (negsuc n) d = ap nat_abs (negsuc-*ℤ-pos n d) ∙ nat_abs-neg (suc n * d)
