-- Fractions that stand for one number, and that each has exactly one reduced form.
use Rattle.std.specs.Prelude.{◌≡◌, ◌≤◌, ◌*◌, ◌/◌, ℕ, suc, ℤ, pos, negsuc, ◌*ℤ◌, refl}
use Rattle.std.specs.Int.{◌∣◌}
use Rattle.std.proofs.Common.{sym, ◌∙◌, ap, subst, arith}
use Rattle.std.proofs.Math.IntN.{neg_ℤ, nat_abs, pos-*ℤ-pos, *ℤ_comm}
use Rattle.std.proofs.Math.Nat.{div-mul_cancel, dvd-mul_left, one-dvd, le_of_dvd, dvd_antisymm, le_of_mul-le-mul_right, mul-dvd-mul_right, pos_of_dvd_of_pos}
use Rattle.alg_mono.proofs.Numbers.{*ℤ_assoc}
use Rattle.alg_universe.specs.Divisors.{divisor_to_left, divisor_to_right, divisor_to_greatest, euclid}
use Rattle.alg_universe.specs.Fractions.{Fraction, IsReduced, divisor, over, reduce}
use Rattle.alg_mono.proofs.Integers.{neg_ℤ-*ℤ, *ℤ-cancel, nat_abs-neg, nat_abs-*ℤ, products}

-- two fractions stand for one number
pub record Same (x y : Fraction) : Type 0 where
  pub cross : x.0 *ℤ pos y.1 ≡ y.0 *ℤ pos x.1

pub Same-sym : (x y : Fraction) → Same x y → Same y x
Same-sym x y h = record { cross = sym h.cross }

pub Same-trans : (x y z : Fraction) → 1 ≤ y.1 → Same x y → Same y z → Same x z
Same-trans x y z some h l = record {
  cross = *ℤ-cancel (x.0 *ℤ pos z.1) (z.0 *ℤ pos x.1) y.1 some (
      regroup x.0 z.1 y.1 ∙ ap (λ w. w *ℤ pos z.1) h.cross ∙ regroup y.0 x.1 z.1 ∙ ap (λ w. w *ℤ pos x.1) l.cross
      ∙ regroup z.0 y.1 x.1
      );
}
  where
    regroup : (a : ℤ) (m n : ℕ) → (a *ℤ pos m) *ℤ pos n ≡ (a *ℤ pos n) *ℤ pos m
    regroup a m n = simp products refl

pub over-*ℤ : (a : ℤ) (d : ℕ) → d ∣ nat_abs a → over a d *ℤ pos d ≡ a
over-*ℤ (pos n) d h = pos-*ℤ-pos (n / d) d ∙ ap pos (div-mul_cancel d h)
over-*ℤ (negsuc n) d h =
    neg_ℤ-*ℤ (pos (suc n / d)) (pos d) ∙ ap neg_ℤ (pos-*ℤ-pos (suc n / d) d ∙ ap pos (div-mul_cancel d h))

nat_abs-over : (a : ℤ) (d : ℕ) → nat_abs (over a d) ≡ nat_abs a / d
nat_abs-over (pos n) d = refl
nat_abs-over (negsuc n) d = nat_abs-neg (suc n / d)

module _ (x : Fraction) (some : 1 ≤ x.1) where
  top : divisor x ∣ nat_abs x.0
  top = divisor_to_left x.1 (nat_abs x.0) x.1

  bottom : divisor x ∣ x.1
  bottom = divisor_to_right x.1 (nat_abs x.0) x.1

  bottom_is : x.1 / divisor x * divisor x ≡ x.1
  bottom_is = div-mul_cancel (divisor x) bottom

  divisor_positive : 1 ≤ divisor x
  divisor_positive = divisor_to_greatest x.1 (nat_abs x.0) x.1 1 some (one-dvd (nat_abs x.0)) (one-dvd x.1)

  pub reduce_positive : 1 ≤ (reduce x).1
  reduce_positive = grind (arith, bottom_is)

  pub reduce_same : Same (reduce x) x
  reduce_same =
      let g = divisor x in
      let whole : pos x.1 ≡ pos g *ℤ pos (x.1 / g) =
      ap pos (sym bottom_is) ∙ sym (pos-*ℤ-pos (x.1 / g) g) ∙ *ℤ_comm (pos (x.1 / g)) (pos g)
      in
      record {
        cross = ap (λ w. over x.0 g *ℤ w) whole ∙ sym (*ℤ_assoc (over x.0 g) (pos g) (pos (x.1 / g)))
            ∙ ap (λ w. w *ℤ pos (x.1 / g)) (over-*ℤ x.0 g top);
      }

  pub reduce_reduced : IsReduced (reduce x)
  reduce_reduced = record { positive = reduce_positive; coprime = λ d h l. only_one d h l }
    where
      both_divide : (d n : ℕ) → divisor x ∣ n → d ∣ n / divisor x → d * divisor x ∣ n
      both_divide d n h l =
          subst (λ w. d * divisor x ∣ w) (div-mul_cancel (divisor x) h) (mul-dvd-mul_right d l (divisor x))

      only_one : (d : ℕ) → d ∣ nat_abs (reduce x).0 → d ∣ (reduce x).1 → d ≡ 1
      only_one d h l =
          let g = divisor x in
          let part : d ∣ nat_abs x.0 / g = subst (λ w. d ∣ w) (nat_abs-over x.0 g) h in
          let above : d * g ∣ nat_abs x.0 = both_divide d (nat_abs x.0) top part in
          let below : d * g ∣ x.1 = both_divide d x.1 bottom l in
          let within : d * g ≤ x.1 = le_of_dvd some below in
          let greatest : d * g ≤ 1 * g =
          omega (arith, divisor_to_greatest x.1 (nat_abs x.0) x.1 (d * g) within above below)
          in
          let least : 1 ≤ d = pos_of_dvd_of_pos l reduce_positive in
          let most : d ≤ 1 = le_of_mul-le-mul_right greatest divisor_positive in
          omega arith

-- the absolute values of the cross products
cross_abs : (x y : Fraction) → Same x y → nat_abs x.0 * y.1 ≡ nat_abs y.0 * x.1
cross_abs x y h = sym (nat_abs-*ℤ x.0 y.1) ∙ ap nat_abs h.cross ∙ nat_abs-*ℤ y.0 x.1

-- of two reduced fractions for one number each denominator divides the other
divides_other : (x y : Fraction) → IsReduced x → Same x y → x.1 ∣ y.1
divides_other x y r h =
    let product : x.1 ∣ nat_abs x.0 * y.1 =
    subst (λ w. x.1 ∣ w) (sym (cross_abs x y h)) (dvd-mul_left x.1 (nat_abs y.0))
    in
    euclid x.1 (nat_abs x.0) x.1 y.1 r.positive (omega arith) r.coprime product

-- a number has one reduced fraction
pub unique : (x y : Fraction) → IsReduced x → IsReduced y → Same x y → x ≡ y
unique x y r s h =
    let bottom : x.1 ≡ y.1 = dvd_antisymm (divides_other x y r h) (divides_other y x s (Same-sym x y h)) in
    let cross : x.0 *ℤ pos y.1 ≡ y.0 *ℤ pos y.1 = h.cross ∙ ap (λ (w : ℕ). y.0 *ℤ pos w) bottom in
    let top : x.0 ≡ y.0 = *ℤ-cancel x.0 y.0 y.1 s.positive cross in
    λ i. (top i, bottom i)

-- fractions for one number reduce to one fraction
pub reduce_equal : (x y : Fraction) → 1 ≤ x.1 → 1 ≤ y.1 → Same x y → reduce x ≡ reduce y
reduce_equal x y some more h =
    unique (reduce x) (reduce y) (reduce_reduced x some) (reduce_reduced y more)
    (Same-trans (reduce x) x (reduce y) some (reduce_same x some)
    (Same-trans x y (reduce y) more h (Same-sym (reduce y) y (reduce_same y more))))

-- a reduced fraction stays as it is
pub reduce_reduced_is : (x : Fraction) → IsReduced x → reduce x ≡ x
reduce_reduced_is x r = unique (reduce x) x (reduce_reduced x r.positive) r (reduce_same x r.positive)
