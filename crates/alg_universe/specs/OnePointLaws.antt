-- The laws of the one element as a universe: each equation has one value on both sides.
use Rattle.std.specs.Prelude.{refl}
use Rattle.alg_universe.specs.Laws.{IsUniverse}
use Rattle.alg_universe.specs.OnePoint.{has, zero, one, add, opp, mul, inv, hom, kind, char0, maps}

pub laws : IsUniverse has zero one add opp mul inv hom kind char0 maps
laws = record {
  has_prop = λ s x p q. refl;
  has_zero = λ s. tt;
  has_one = λ s. tt;
  has_add = λ s x y p q. tt;
  has_opp = λ s x p. tt;
  has_mul = λ s x y p q. tt;
  has_inv = λ s x p. tt;
  add_assoc = λ s x y z p q r. refl;
  add_comm = λ s x y p q. refl;
  add_zero = λ s x p. refl;
  add_opp = λ s x p. refl;
  mul_assoc = λ s x y z p q r. refl;
  mul_comm = λ s x y p q. refl;
  mul_one = λ s x p. refl;
  mul_add = λ s x y z p q r. refl;
  one_not_zero = λ s d. absurd d;
  no_divisors = λ s x y d p q h. absurd d;
  mul_inv = λ s x f p q. absurd f;
  ones_not_zero = λ s n c d. absurd d;
  hom_has = λ h s t x m p. tt;
  hom_zero = λ h s t m. refl;
  hom_one = λ h s t m. refl;
  hom_add = λ h s t x y m p q. refl;
  hom_opp = λ h s t x m p. refl;
  hom_mul = λ h s t x y m p q. refl;
}
