-- The laws of the rational numbers as a universe.
use Rattle.std.specs.Prelude.{◌≡◌, ◌≢◌, ◌⊎◌, ◌≤◌, ◌*◌, ℕ, zero, suc, ℤ, pos, negsuc, ◌*ℤ◌, refl}
use Rattle.std.proofs.Common.{sym, ◌∙◌, ap, subst, inl, inr, arith}
use Rattle.std.proofs.Math.Nat.{eq-one_of_dvd-one, ℕ_set}
use Rattle.std.proofs.Math.Bridge.{le_prop}
use Rattle.std.proofs.lemmas.Int.{ints}
use borrow.Author.Differences.{neg_is}
use Rattle.alg_universe.specs.FractionLaws.{positive_product, pair_equal, plus_comm, times_comm, reduce_plus_right, reduce_times_right, reduce_plus_assoc, reduce_times_assoc, reduce_times_plus}
use Rattle.alg_universe.specs.Fractions.{Fraction, IsReduced, reduce, plus, opposite, times, inverse_of, inverse}
use Rattle.alg_mono.proofs.Integers.{*ℤ-one, *ℤ-eq-zero, neg_ℤ-*ℤ, products}
use Rattle.alg_universe.specs.Laws.{IsUniverse}
use Rattle.alg_universe.specs.Ones.{ones}
use Rattle.alg_universe.specs.Rats.{has, zero as nil, one, add, opp, mul, inv, hom, kind, char0, maps}
use Rattle.alg_universe.specs.Reducing.{Same, Same-sym, reduce_reduced, reduce_same, reduce_equal, reduce_reduced_is, unique}

-- a whole number over 1 is reduced
pub whole : (n : ℤ) → IsReduced (n, 1)
whole n = record { positive = omega arith; coprime = λ d h l. eq-one_of_dvd-one l }

plus_zero : (x : Fraction) → plus x (pos 0, 1) ≡ x
plus_zero x = pair_equal (plus x (pos 0, 1)) x (omega (arith, ints)) (omega arith)

times_one : (x : Fraction) → times x (pos 1, 1) ≡ x
times_one x = pair_equal (times x (pos 1, 1)) x (*ℤ-one x.0) (omega arith)

plus_opposite : (x : Fraction) → Same (plus x (opposite x)) (pos 0, 1)
plus_opposite x = record { cross = omega (arith, ints, neg_ℤ-*ℤ x.0 (pos x.1)) }

add_opp : (x : Fraction) → IsReduced x → reduce (plus x (reduce (opposite x))) ≡ (pos 0, 1)
add_opp x p =
    reduce_plus_right (opposite x) x p.positive p.positive
    ∙ reduce_equal (plus x (opposite x)) (pos 0, 1) (positive_product x.1 x.1 p.positive p.positive) (omega arith)
    (plus_opposite x)
    ∙ reduce_reduced_is (pos 0, 1) (whole (pos 0))

-- a reduced fraction with the numerator 0 is zero
zero_if : (x : Fraction) → IsReduced x → x.0 ≡ pos 0 → x ≡ (pos 0, 1)
zero_if x p e =
    unique x (pos 0, 1) p (whole (pos 0)) (record { cross = omega (arith, ints, e, ap (λ w. w *ℤ pos 1) e) })

no_divisors : (x y : Fraction) → IsReduced x → IsReduced y → reduce (times x y) ≡ (pos 0, 1) →
    (x ≡ (pos 0, 1)) ⊎ (y ≡ (pos 0, 1))
no_divisors x y p q h =
    let some = positive_product x.1 y.1 p.positive q.positive in
    let back : Same (times x y) (reduce (times x y)) =
    Same-sym (reduce (times x y)) (times x y) (reduce_same (times x y) some)
    in
    let same : Same (times x y) (pos 0, 1) = subst (λ w. Same (times x y) w) h back in
    let product : x.0 *ℤ y.0 ≡ pos 0 = omega (arith, ints, same.cross) in
    elim (*ℤ-eq-zero x.0 y.0 product) [ inl e ↦ inl (zero_if x p e) | inr e ↦ inr (zero_if y q e) ]

inverse_positive : (a : ℤ) (b : ℕ) → 1 ≤ (inverse_of a b).1
inverse_positive (pos zero) b = omega arith
inverse_positive (pos (suc n)) b = omega arith
inverse_positive (negsuc n) b = omega arith

times_inverse : (a : ℤ) (b : ℕ) → a ≢ pos 0 → Same (times (a, b) (inverse_of a b)) (pos 1, 1)
times_inverse (pos zero) b h = absurd (h refl)
times_inverse (pos (suc n)) b h = record { cross = simp products refl }
times_inverse (negsuc n) b h = record {
  cross = omega (
    arith,
    ints,
    ap (λ (k : ℕ). suc n * k) (neg_is (pos b)).0,
    ap (λ (k : ℕ). suc n * k) (neg_is (pos b)).1,
  );
}

mul_inv : (x : Fraction) → IsReduced x → x ≢ (pos 0, 1) → reduce (times x (reduce (inverse x))) ≡ (pos 1, 1)
mul_inv x p h =
    let some = inverse_positive x.0 x.1 in
    reduce_times_right (inverse x) x some p.positive
    ∙ reduce_equal (times x (inverse x)) (pos 1, 1) (positive_product x.1 (inverse x).1 p.positive some) (omega arith)
    (times_inverse x.0 x.1 (λ e. h (zero_if x p e)))
    ∙ reduce_reduced_is (pos 1, 1) (whole (pos 1))

-- the sum of n ones is n over 1
pub ones_is : (n : ℕ) → ones (pos 0, 1) (pos 1, 1) (λ x y. reduce (plus x y)) n ≡ (pos n, 1)
ones_is zero = refl
ones_is (suc n) =
    ap (λ w. reduce (plus (pos 1, 1) w)) (ones_is n)
    ∙ ap reduce (pair_equal (plus (pos 1, 1) (pos n, 1)) (pos (suc n), 1) (omega (arith, ints)) refl)
    ∙ reduce_reduced_is (pos (suc n), 1) (whole (pos (suc n)))

ones_not_zero : (n : ℕ) → 1 ≤ n → ones (pos 0, 1) (pos 1, 1) (λ x y. reduce (plus x y)) n ≢ (pos 0, 1)
ones_not_zero n some h =
    let e : pos n ≡ pos 0 = ap (λ (w : Fraction). w.0) (sym (ones_is n) ∙ h) in
    omega (arith, ints, e)

has_prop : (x : Fraction) → IsProp (IsReduced x)
has_prop x = hlevel (le_prop {n = 1} {m = x.1}, ℕ_set)

pub laws : IsUniverse has nil one add opp mul inv hom kind char0 maps
laws = record {
  has_prop = λ s x. has_prop x;
  has_zero = λ s. whole (pos 0);
  has_one = λ s. whole (pos 1);
  has_add = λ s x y p q. reduce_reduced (plus x y) (positive_product x.1 y.1 p.positive q.positive);
  has_opp = λ s x p. reduce_reduced (opposite x) p.positive;
  has_mul = λ s x y p q. reduce_reduced (times x y) (positive_product x.1 y.1 p.positive q.positive);
  has_inv = λ s x p. reduce_reduced (inverse x) (inverse_positive x.0 x.1);
  add_assoc = λ s x y z p q r. reduce_plus_assoc x y z p.positive q.positive r.positive;
  add_comm = λ s x y p q. ap reduce (plus_comm x y);
  add_zero = λ s x p. ap reduce (plus_zero x) ∙ reduce_reduced_is x p;
  add_opp = λ s x p. add_opp x p;
  mul_assoc = λ s x y z p q r. reduce_times_assoc x y z p.positive q.positive r.positive;
  mul_comm = λ s x y p q. ap reduce (times_comm x y);
  mul_one = λ s x p. ap reduce (times_one x) ∙ reduce_reduced_is x p;
  mul_add = λ s x y z p q r. reduce_times_plus x y z p.positive q.positive r.positive;
  one_not_zero = λ s d h. let e : pos 1 ≡ pos 0 = ap (λ (w : Fraction). w.0) h in cc;
  no_divisors = λ s x y d p q h. no_divisors x y p q h;
  mul_inv = λ s x f p q. mul_inv x p q;
  ones_not_zero = λ s n c d some. ones_not_zero n some;
  hom_has = λ h s t x m p. p;
  hom_zero = λ h s t m. refl;
  hom_one = λ h s t m. refl;
  hom_add = λ h s t x y m p q. refl;
  hom_opp = λ h s t x m p. refl;
  hom_mul = λ h s t x y m p q. refl;
}
