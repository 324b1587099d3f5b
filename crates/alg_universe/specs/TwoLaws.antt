-- The laws of the two elements as a universe, by their cases.
use Rattle.std.specs.Prelude.{◌≡◌, ◌≢◌, ◌⊎◌, ℕ, refl}
use Rattle.std.proofs.Common.{inl, inr}
use Rattle.alg_universe.specs.declared.two.Two.{Two}
use Rattle.alg_universe.specs.declared.two.Two.TheVariants.{Zero, One}
use Rattle.alg_universe.specs.Laws.{IsUniverse}
use Rattle.alg_universe.specs.Two.{has, zero, one, add, opp, mul, inv, hom, kind, char0, maps}

module _ (s : ℕ) where
  add_assoc : (x y z : Two) → add s (add s x y) z ≡ add s x (add s y z)
  add_assoc Zero y z = refl
  add_assoc One Zero z = refl
  add_assoc One One Zero = refl
  add_assoc One One One = refl

  add_comm : (x y : Two) → add s x y ≡ add s y x
  add_comm Zero Zero = refl
  add_comm Zero One = refl
  add_comm One Zero = refl
  add_comm One One = refl

  add_zero : (x : Two) → add s x Zero ≡ x
  add_zero Zero = refl
  add_zero One = refl

  add_opp : (x : Two) → add s x x ≡ Zero
  add_opp Zero = refl
  add_opp One = refl

  mul_assoc : (x y z : Two) → mul s (mul s x y) z ≡ mul s x (mul s y z)
  mul_assoc Zero y z = refl
  mul_assoc One y z = refl

  mul_comm : (x y : Two) → mul s x y ≡ mul s y x
  mul_comm Zero Zero = refl
  mul_comm Zero One = refl
  mul_comm One Zero = refl
  mul_comm One One = refl

  mul_one : (x : Two) → mul s x One ≡ x
  mul_one Zero = refl
  mul_one One = refl

  mul_add : (x y z : Two) → mul s x (add s y z) ≡ add s (mul s x y) (mul s x z)
  mul_add Zero y z = refl
  mul_add One y z = refl

  no_divisors : (x y : Two) → mul s x y ≡ Zero → (x ≡ Zero) ⊎ (y ≡ Zero)
  no_divisors Zero y h = inl refl
  no_divisors One y h = inr h

  mul_inv : (x : Two) → x ≢ Zero → mul s x x ≡ One
  mul_inv Zero h = absurd (h refl)
  mul_inv One h = refl

pub laws : IsUniverse has zero one add opp mul inv hom kind char0 maps
laws = record {
  has_prop = λ s x p q. refl;
  has_zero = λ s. tt;
  has_one = λ s. tt;
  has_add = λ s x y p q. tt;
  has_opp = λ s x p. tt;
  has_mul = λ s x y p q. tt;
  has_inv = λ s x p. tt;
  add_assoc = λ s x y z p q r. add_assoc s x y z;
  add_comm = λ s x y p q. add_comm s x y;
  add_zero = λ s x p. add_zero s x;
  add_opp = λ s x p. add_opp s x;
  mul_assoc = λ s x y z p q r. mul_assoc s x y z;
  mul_comm = λ s x y p q. mul_comm s x y;
  mul_one = λ s x p. mul_one s x;
  mul_add = λ s x y z p q r. mul_add s x y z;
  one_not_zero = λ s d h. cc;
  no_divisors = λ s x y d p q h. no_divisors s x y h;
  mul_inv = λ s x f p q. mul_inv s x q;
  ones_not_zero = λ s n c d. cc;
  hom_has = λ h s t x m p. tt;
  hom_zero = λ h s t m. refl;
  hom_one = λ h s t m. refl;
  hom_add = λ h s t x y m p q. refl;
  hom_opp = λ h s t x m p. refl;
  hom_mul = λ h s t x y m p q. refl;
}
