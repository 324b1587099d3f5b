-- The laws of fractions, first as they stand and then in lowest terms.
use Rattle.std.specs.Prelude.{◌≡◌, ◌≤◌, ◌*◌, ℕ, ℤ, pos, ◌+ℤ◌, ◌*ℤ◌, refl}
use Rattle.std.proofs.Common.{sym, ◌∙◌, ap, arith}
use Rattle.std.proofs.Math.IntN.{+ℤ_comm}
use Rattle.alg_universe.specs.Fractions.{Fraction, reduce, plus, times}
use Rattle.alg_mono.proofs.Integers.{products}
use Rattle.alg_universe.specs.Reducing.{Same, reduce_positive, reduce_same, reduce_equal}

pub positive_product : (m n : ℕ) → 1 ≤ m → 1 ≤ n → 1 ≤ m * n
positive_product m n h l = grind arith

pub pair_equal : (x y : Fraction) → x.0 ≡ y.0 → x.1 ≡ y.1 → x ≡ y
pair_equal x y h l = λ i. (h i, l i)

-- sums and products commute
pub plus_comm : (x y : Fraction) → plus x y ≡ plus y x
plus_comm x y = pair_equal (plus x y) (plus y x) (+ℤ_comm (x.0 *ℤ pos y.1) (y.0 *ℤ pos x.1)) (omega arith)

pub times_comm : (x y : Fraction) → times x y ≡ times y x
times_comm x y = pair_equal (times x y) (times y x) (simp products refl) (omega arith)

-- sums and products keep what number a fraction stands for
pub plus_left : (x y z : Fraction) → Same x y → Same (plus x z) (plus y z)
plus_left x y z h = record {
  cross = expand x.0 z.0 x.1 z.1 y.1 ∙ ap (λ w. w *ℤ pos (z.1 * z.1) +ℤ z.0 *ℤ pos (x.1 * y.1 * z.1)) h.cross
      ∙ contract y.0 z.0 x.1 z.1 y.1;
}
  where
    expand : (a c : ℤ) (b f d : ℕ) →
        (a *ℤ pos f +ℤ c *ℤ pos b) *ℤ pos (d * f) ≡ (a *ℤ pos d) *ℤ pos (f * f) +ℤ c *ℤ pos (b * d * f)
    expand a c b f d = simp products refl

    contract : (a c : ℤ) (b f d : ℕ) →
        (a *ℤ pos b) *ℤ pos (f * f) +ℤ c *ℤ pos (b * d * f) ≡ (a *ℤ pos f +ℤ c *ℤ pos d) *ℤ pos (b * f)
    contract a c b f d = simp products refl

pub times_left : (x y z : Fraction) → Same x y → Same (times x z) (times y z)
times_left x y z h = record {
  cross = regroup x.0 z.0 y.1 z.1 ∙ ap (λ w. w *ℤ (z.0 *ℤ pos z.1)) h.cross ∙ sym (regroup y.0 z.0 x.1 z.1);
}
  where
    regroup : (a c : ℤ) (d f : ℕ) → (a *ℤ c) *ℤ pos (d * f) ≡ (a *ℤ pos d) *ℤ (c *ℤ pos f)
    regroup a c d f = simp products refl

-- the laws that hold but for reducing
plus_assoc : (x y z : Fraction) → plus (plus x y) z ≡ plus x (plus y z)
plus_assoc x y z = pair_equal (plus (plus x y) z) (plus x (plus y z)) (tops x.0 y.0 z.0 x.1 y.1 z.1) (omega arith)
  where
    tops : (a c e : ℤ) (b d f : ℕ) →
        (a *ℤ pos d +ℤ c *ℤ pos b) *ℤ pos f +ℤ e *ℤ pos (b * d) ≡
        a *ℤ pos (d * f) +ℤ (c *ℤ pos f +ℤ e *ℤ pos d) *ℤ pos b
    tops a c e b d f = simp products refl

times_assoc : (x y z : Fraction) → times (times x y) z ≡ times x (times y z)
times_assoc x y z = pair_equal (times (times x y) z) (times x (times y z)) (simp products refl) (omega arith)

times_plus : (x y z : Fraction) → Same (times x (plus y z)) (plus (times x y) (times x z))
times_plus x y z = record { cross = tops x.0 y.0 z.0 x.1 y.1 z.1 }
  where
    tops : (a c e : ℤ) (b d f : ℕ) →
        (a *ℤ (c *ℤ pos f +ℤ e *ℤ pos d)) *ℤ pos (b * d * (b * f)) ≡
        ((a *ℤ c) *ℤ pos (b * f) +ℤ (a *ℤ e) *ℤ pos (b * d)) *ℤ pos (b * (d * f))
    tops a c e b d f = simp products refl

-- reducing a part first changes nothing
module _ (x y : Fraction) (some : 1 ≤ x.1) (more : 1 ≤ y.1) where
  pub reduce_plus_left : reduce (plus (reduce x) y) ≡ reduce (plus x y)
  reduce_plus_left =
      reduce_equal (plus (reduce x) y) (plus x y) (positive_product (reduce x).1 y.1 (reduce_positive x some) more)
      (positive_product x.1 y.1 some more) (plus_left (reduce x) x y (reduce_same x some))

  pub reduce_times_left : reduce (times (reduce x) y) ≡ reduce (times x y)
  reduce_times_left =
      reduce_equal (times (reduce x) y) (times x y) (positive_product (reduce x).1 y.1 (reduce_positive x some) more)
      (positive_product x.1 y.1 some more) (times_left (reduce x) x y (reduce_same x some))

  pub reduce_plus_right : reduce (plus y (reduce x)) ≡ reduce (plus y x)
  reduce_plus_right = ap reduce (plus_comm y (reduce x)) ∙ reduce_plus_left ∙ ap reduce (plus_comm x y)

  pub reduce_times_right : reduce (times y (reduce x)) ≡ reduce (times y x)
  reduce_times_right = ap reduce (times_comm y (reduce x)) ∙ reduce_times_left ∙ ap reduce (times_comm x y)

-- the laws in lowest terms
module _ (x y z : Fraction) (p : 1 ≤ x.1) (q : 1 ≤ y.1) (r : 1 ≤ z.1) where
  xy : 1 ≤ x.1 * y.1
  xy = positive_product x.1 y.1 p q

  yz : 1 ≤ y.1 * z.1
  yz = positive_product y.1 z.1 q r

  xz : 1 ≤ x.1 * z.1
  xz = positive_product x.1 z.1 p r

  pub reduce_plus_assoc : reduce (plus (reduce (plus x y)) z) ≡ reduce (plus x (reduce (plus y z)))
  reduce_plus_assoc =
      reduce_plus_left (plus x y) z xy r ∙ ap reduce (plus_assoc x y z) ∙ sym (reduce_plus_right (plus y z) x yz p)

  pub reduce_times_assoc : reduce (times (reduce (times x y)) z) ≡ reduce (times x (reduce (times y z)))
  reduce_times_assoc =
      reduce_times_left (times x y) z xy r ∙ ap reduce (times_assoc x y z) ∙ sym (reduce_times_right (times y z) x yz p)

  pub reduce_times_plus : reduce (times x (reduce (plus y z))) ≡ reduce (plus (reduce (times x y)) (reduce (times x z)))
  reduce_times_plus =
      reduce_times_right (plus y z) x yz p
      ∙ reduce_equal (times x (plus y z)) (plus (times x y) (times x z)) (positive_product x.1 (y.1 * z.1) p yz)
      (positive_product (x.1 * y.1) (x.1 * z.1) xy xz) (times_plus x y z)
      ∙ sym (reduce_plus_left (times x y) (times x z) xy xz)
      ∙ sym (reduce_plus_right (times x z) (reduce (times x y)) xz (reduce_positive (times x y) xy))
