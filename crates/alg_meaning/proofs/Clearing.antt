-- Clearing denominators in a commutative semiring.
use Rattle.std.specs.Prelude.{◌≡◌, ℕ, zero, suc, ◌*◌, List, [], ◌∷◌}
use Rattle.std.proofs.Common.{refl, sym, ap, ◌∙◌, mul-suc, mul-zero}
use Rattle.std.specs.declared.cmp.Ordering.{Ordering}
use Rattle.std.specs.FinMap.{IsAntisymmetric}
use Rattle.alg_mono.specs.FiniteMaps.{collect}
use Rattle.alg_mono.specs.Numbers.{exponents}
use Rattle.alg_mono.specs.Monomials.{scaled}
use Rattle.alg_mono.proofs.Totals.{total-collect}
use Rattle.alg_mono.proofs.Numbers.{exponent_laws}
use Rattle.alg_meaning.proofs.Rings.{power, power-add}
use Rattle.alg_meaning.proofs.Evaluation.{Semiring, dist_right, pair_up, mono_value, factors_add}

module _ {B : Type 0} (R : Semiring B) where
  abbrev mul : B → B → B
  mul x y = R.times x y

  pub clear_sum : (t x pt px lt lx nt nx : B) → mul t pt ≡ nt → mul x px ≡ nx → mul pt lt ≡ mul px lx →
      mul (R.plus t x) (mul pt lt) ≡ R.plus (mul nt lt) (mul nx lx)
  clear_sum t x pt px lt lx nt nx e f g =
      dist_right R t x (mul pt lt)
      ∙ (λ i. R.plus ((sym (R.laws.product.assoc t pt lt) ∙ ap (λ y. mul y lt) e) i) ((ap (mul x) g
      ∙ sym (R.laws.product.assoc x px lx) ∙ ap (λ y. mul y lx) f) i))

  pub clear_product : (t x pt px nt nx : B) → mul t pt ≡ nt → mul x px ≡ nx → mul (mul t x) (mul pt px) ≡ mul nt nx
  clear_product t x pt px nt nx e f = pair_up R t x pt px ∙ (λ i. mul (e i) (f i))

  -- i is the inverse of x
  pub into_inverse : (x i y : B) → mul x i ≡ R.one → mul i (mul x y) ≡ y
  into_inverse x i y e =
      sym (R.laws.product.assoc i x y) ∙ ap (λ z. mul z y) (R.laws.product.comm i x ∙ e) ∙ R.laws.product.idl y

  pub clear_quotient : (t x i pt px nt nx : B) → mul t pt ≡ nt → mul x px ≡ nx → mul x i ≡ R.one →
      mul (mul t i) (mul pt nx) ≡ mul nt px
  clear_quotient t x i pt px nt nx e f g =
      pair_up R t i pt nx ∙ (λ k. mul (e k) ((ap (mul i) (sym f) ∙ into_inverse x i px g) k))

  -- where the denominator's numerator is its own inverse
  pub clear_unit : (t x i pt px nt nx : B) → mul t pt ≡ nt → mul x px ≡ nx → mul x i ≡ R.one → mul nx nx ≡ R.one →
      mul (mul t i) pt ≡ mul (mul nt px) nx
  clear_unit t x i pt px nt nx e f g h =
      R.laws.product.assoc t i pt ∙ ap (mul t) (R.laws.product.comm i pt) ∙ sym (R.laws.product.assoc t pt i)
      ∙ (λ k. mul (e k) (inverse k)) ∙ sym (R.laws.product.assoc nt px nx)
    where
      inverse : i ≡ mul px nx
      inverse =
          sym (R.laws.product.comm i R.one ∙ R.laws.product.idl i)
          ∙ ap (mul i) (sym h ∙ ap (λ y. mul y nx) (sym f) ∙ R.laws.product.assoc x px nx)
          ∙ into_inverse x i (mul px nx) g

  pub power-product : (x y : B) (n : ℕ) →
      power R.one R.times (mul x y) n ≡ mul (power R.one R.times x n) (power R.one R.times y n)
  power-product x y zero = sym (R.laws.product.idl R.one)
  power-product x y (suc n) =
      ap (mul (mul x y)) (power-product x y n) ∙ pair_up R x y (power R.one R.times x n) (power R.one R.times y n)

  power-one : (n : ℕ) → power R.one R.times R.one n ≡ R.one
  power-one zero = refl
  power-one (suc n) = R.laws.product.idl (power R.one R.times R.one n) ∙ power-one n

  power-times : (x : B) (e n : ℕ) → power R.one R.times x (e * n) ≡ power R.one R.times (power R.one R.times x e) n
  power-times x e zero = rw mul-zero refl
  power-times x e (suc n) =
      rw mul-suc (power-add R.laws.product x (e * n) e
      ∙ R.laws.product.comm (power R.one R.times x (e * n)) (power R.one R.times x e)
      ∙ ap (mul (power R.one R.times x e)) (power-times x e n))

  total-scaled : {K : Type 0} (v : K → B) (n : ℕ) (m : List (K × ℕ)) →
      mono_value R v (scaled n m) ≡ power R.one R.times (mono_value R v m) n
  total-scaled v n [] = sym (power-one n)
  total-scaled v n (e ∷ m) =
      (λ i. mul (power-times (v e.0) e.1 n i) (total-scaled v n m i))
      ∙ sym (power-product (power R.one R.times (v e.0) e.1) (mono_value R v m) n)

  pub mono_value-scaled : {K : Type 0} {cmp : K → K → Ordering} → IsAntisymmetric cmp →
      (v : K → B) (n : ℕ) (m : List (K × ℕ)) →
      mono_value R v (collect cmp exponents (scaled n m)) ≡ power R.one R.times (mono_value R v m) n
  mono_value-scaled anti v n m =
      total-collect exponent_laws anti R.laws.product (factors_add R v) (scaled n m) ∙ total-scaled v n m
