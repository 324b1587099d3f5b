-- Commutative semirings and rings, and the value of a number in one.
use Rattle.std.specs.Prelude.{◌≡◌, ℕ, zero, suc, ◌+◌, ◌*◌, ℤ, pos, negsuc, ◌+ℤ◌, ◌*ℤ◌}
use Rattle.std.proofs.Common.{refl, sym, ap, ◌∙◌, arith, add-suc, add-zero, mul-suc, mul-zero}
use lib.IntN.{neg_ℤ}
use borrow.Author.Differences.{up, down, product_is, sum_is_lem}
use Rattle.alg_universe.specs.Ones.{ones}
use Rattle.alg_mono.proofs.Totals.{IsSum, left_comm}

pub record IsSemiring {B : Type 0} (none one : B) (plus times : B → B → B) : Type 0 where
  pub sum : IsSum none plus
  pub product : IsSum one times
  pub dist : (x y z : B) → times x (plus y z) ≡ plus (times x y) (times x z)
  pub none_times : (x : B) → times none x ≡ none

pub record IsRing {B : Type 0} (none one : B) (plus times : B → B → B) (opp : B → B) : Type 0 where
  pub sum : IsSum none plus
  pub product : IsSum one times
  pub dist : (x y z : B) → times x (plus y z) ≡ plus (times x y) (times x z)
  pub opposite : (x : B) → plus x (opp x) ≡ none

module _ {B : Type 0} (none one : B) (plus : B → B → B) (opp : B → B) where
  abbrev pub int_value : ℤ → B
  int_value (pos n) = ones none one plus n
  int_value (negsuc n) = opp (ones none one plus (suc n))

abbrev pub power : {B : Type 0} → B → (B → B → B) → B → ℕ → B
power one times x zero = one
power one times x (suc n) = times x (power one times x n)

module _ {B : Type 0} {none one : B} {plus times : B → B → B} {opp : B → B} (R : IsRing none one plus times opp) where
  abbrev nv : ℕ → B
  nv n = ones none one plus n

  sum_left : (x y z : B) → plus x (plus y z) ≡ plus y (plus x z)
  sum_left x y z = sym (R.sum.assoc x y z) ∙ ap (λ w. plus w z) (R.sum.comm x y) ∙ R.sum.assoc y x z

  pub idr : (x : B) → plus x none ≡ x
  idr x = R.sum.comm x none ∙ R.sum.idl x

  pub cancel : (x y z : B) → plus x z ≡ plus y z → x ≡ y
  cancel x y z e =
      sym (idr x) ∙ ap (plus x) (sym (R.opposite z)) ∙ sym (R.sum.assoc x z (opp z)) ∙ ap (λ w. plus w (opp z)) e
      ∙ R.sum.assoc y z (opp z) ∙ ap (plus y) (R.opposite z) ∙ idr y

  pub dist_right : (x y z : B) → times (plus x y) z ≡ plus (times x z) (times y z)
  dist_right x y z =
      R.product.comm (plus x y) z ∙ R.dist z x y ∙ (λ i. plus (R.product.comm z x i) (R.product.comm z y i))

  pub times_none : (x : B) → times x none ≡ none
  times_none x =
      cancel (times x none) none (times x none) (sym (R.dist x none none) ∙ ap (times x) (R.sum.idl none)
      ∙ sym (R.sum.idl (times x none)))

  middle4 : (a b c d : B) → plus (plus a b) (plus c d) ≡ plus (plus a c) (plus b d)
  middle4 a b c d = simp (R.sum.assoc, sum_left)

  pub nat_value-add : (m n : ℕ) → nv (m + n) ≡ plus (nv m) (nv n)
  nat_value-add m zero = rw add-zero (sym (idr (nv m)))
  nat_value-add m (suc n) = rw add-suc (ap (plus one) (nat_value-add m n) ∙ sum_left one (nv m) (nv n))

  pub nat_value-mul : (m n : ℕ) → nv (m * n) ≡ times (nv m) (nv n)
  nat_value-mul m zero = rw mul-zero (sym (times_none (nv m)))
  nat_value-mul m (suc n) =
      rw mul-suc (nat_value-add (m * n) m ∙ ap (λ x. plus x (nv m)) (nat_value-mul m n) ∙ R.sum.comm _ (nv m)
      ∙ ap (λ x. plus x (times (nv m) (nv n))) (sym (R.product.idl (nv m)) ∙ R.product.comm one (nv m))
      ∙ sym (R.dist (nv m) one (nv n)))

  pub mul_left : (x y z : B) → times x (times y z) ≡ times y (times x z)
  mul_left x y z = sym (R.product.assoc x y z) ∙ ap (λ w. times w z) (R.product.comm x y) ∙ R.product.assoc y x z

  pub times_opp : (x y : B) → times x (opp y) ≡ opp (times x y)
  times_opp x y = cancel (times x (opp y)) (opp (times x y)) (times x y)
      (sym (R.dist x (opp y) y) ∙ ap (times x) (R.sum.comm (opp y) y ∙ R.opposite y) ∙ times_none x
      ∙ sym (R.sum.comm (opp (times x y)) (times x y) ∙ R.opposite (times x y)))

  pub opp_none : opp none ≡ none
  opp_none = sym (R.sum.idl (opp none)) ∙ R.opposite none

  pub opp_plus : (x y : B) → opp (plus x y) ≡ plus (opp x) (opp y)
  opp_plus x y = cancel (opp (plus x y)) (plus (opp x) (opp y)) (plus x y)
      (R.sum.comm (opp (plus x y)) (plus x y) ∙ R.opposite (plus x y)
      ∙ sym (middle4 (opp x) (opp y) x y
      ∙ (λ i. plus ((R.sum.comm (opp x) x ∙ R.opposite x) i) ((R.sum.comm (opp y) y ∙ R.opposite y) i))
      ∙ R.sum.idl none))

  pub opp_opp : (x : B) → opp (opp x) ≡ x
  opp_opp x =
      cancel (opp (opp x)) x (opp x) (R.sum.comm (opp (opp x)) (opp x) ∙ R.opposite (opp x) ∙ sym (R.opposite x))

  -- the difference of two naturals
  diff : ℕ → ℕ → B
  diff p n = plus (nv p) (opp (nv n))

  diff_same : (p n q m : ℕ) → p + m ≡ q + n → diff p n ≡ diff q m
  unfolding diff
  diff_same p n q m e =
      cancel (plus (nv p) (opp (nv n))) (plus (nv q) (opp (nv m))) (plus (nv n) (nv m))
      (middle4 (nv p) (opp (nv n)) (nv n) (nv m) ∙ plus_end p n m ∙ ap nv e
      ∙ sym (middle4 (nv q) (opp (nv m)) (nv m) (nv n) ∙ plus_end q m n)
      ∙ ap (plus (plus (nv q) (opp (nv m)))) (R.sum.comm (nv m) (nv n)))
    where
      plus_end : (p n m : ℕ) → plus (plus (nv p) (nv n)) (plus (opp (nv n)) (nv m)) ≡ nv (p + m)
      plus_end p n m =
          R.sum.assoc (nv p) (nv n) (plus (opp (nv n)) (nv m))
          ∙ ap (plus (nv p)) (sym (R.sum.assoc (nv n) (opp (nv n)) (nv m))
          ∙ ap (λ x. plus x (nv m)) (R.opposite (nv n)) ∙ R.sum.idl (nv m)) ∙ sym (nat_value-add p m)

  abbrev pub iv : ℤ → B
  iv z = int_value none one plus opp z

  iv_diff : (z : ℤ) → iv z ≡ diff (up z) (down z)
  unfolding diff
  iv_diff (pos n) = sym (idr (nv n)) ∙ ap (plus (nv n)) (sym opp_none)
  iv_diff (negsuc n) = sym (R.sum.idl (opp (nv (suc n))))

  pub iv-plus : (a b : ℤ) → iv (a +ℤ b) ≡ plus (iv a) (iv b)
  unfolding diff
  iv-plus a b =
      iv_diff (a +ℤ b) ∙ diff_same (up (a +ℤ b)) (down (a +ℤ b)) (up a + up b) (down a + down b)
      (omega (arith, sum_is_lem a b))
      ∙ (λ i. plus (nat_value-add (up a) (up b) i) ((ap opp (nat_value-add (down a) (down b))
      ∙ opp_plus (nv (down a)) (nv (down b))) i))
      ∙ middle4 (nv (up a)) (nv (up b)) (opp (nv (down a))) (opp (nv (down b)))
      ∙ sym (λ i. plus (iv_diff a i) (iv_diff b i))

  pub opp_times : (x y : B) → times (opp x) y ≡ opp (times x y)
  opp_times x y = R.product.comm (opp x) y ∙ times_opp y x ∙ ap opp (R.product.comm y x)

  pub opp_both : (x y : B) → times (opp x) (opp y) ≡ times x y
  opp_both x y = times_opp (opp x) y ∙ ap opp (opp_times x y) ∙ opp_opp (times x y)

  diff_product : (p n q m : ℕ) → times (diff p n) (diff q m) ≡ diff (p * q + n * m) (p * m + n * q)
  unfolding diff
  diff_product p n q m =
      dist_right (nv p) (opp (nv n)) (plus (nv q) (opp (nv m)))
      ∙ (λ i. plus (R.dist (nv p) (nv q) (opp (nv m)) i) (R.dist (opp (nv n)) (nv q) (opp (nv m)) i))
      ∙ (λ i. plus (plus (times (nv p) (nv q)) (times_opp (nv p) (nv m) i))
      (plus (opp_times (nv n) (nv q) i) (opp_both (nv n) (nv m) i)))
      ∙ ap (plus (plus (times (nv p) (nv q)) (opp (times (nv p) (nv m)))))
      (R.sum.comm (opp (times (nv n) (nv q))) (times (nv n) (nv m)))
      ∙ middle4 (times (nv p) (nv q)) (opp (times (nv p) (nv m))) (times (nv n) (nv m)) (opp (times (nv n) (nv q)))
      ∙ (λ i. plus (plus (sym (nat_value-mul p q) i) (sym (nat_value-mul n m) i))
      (sym (opp_plus (times (nv p) (nv m)) (times (nv n) (nv q))) i))
      ∙ (λ i. plus (sym (nat_value-add (p * q) (n * m)) i)
      (opp (plus (sym (nat_value-mul p m) i) (sym (nat_value-mul n q) i))))
      ∙ ap (λ x. plus (nv (p * q + n * m)) (opp x)) (sym (nat_value-add (p * m) (n * q)))

  pub iv-times : (a b : ℤ) → iv (a *ℤ b) ≡ times (iv a) (iv b)
  iv-times a b =
      iv_diff (a *ℤ b) ∙ (λ i. diff ((product_is a b).0 i) ((product_is a b).1 i))
      ∙ sym (diff_product (up a) (down a) (up b) (down b)) ∙ sym (λ i. times (iv_diff a i) (iv_diff b i))

  pub iv-neg : (a : ℤ) → iv (neg_ℤ a) ≡ opp (iv a)
  iv-neg (pos zero) = sym opp_none
  iv-neg (pos (suc n)) = refl
  iv-neg (negsuc n) = sym (opp_opp (nv (suc n)))

  pub semi : IsSemiring none one plus times
  semi =
      record { sum = R.sum; product = R.product; dist = R.dist; none_times = λ x. R.product.comm none x ∙ times_none x }

module _ {B : Type 0} {one : B} {times : B → B → B} (P : IsSum one times) where
  pub power-add : (x : B) (m n : ℕ) → power one times x (m + n) ≡ times (power one times x m) (power one times x n)
  power-add x m zero = rw add-zero (sym (P.comm (power one times x m) one ∙ P.idl (power one times x m)))
  power-add x m (suc n) =
      rw add-suc (ap (times x) (power-add x m n) ∙ left_comm P x (power one times x m) (power one times x n))
