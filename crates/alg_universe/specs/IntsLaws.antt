-- The laws of the whole numbers as a universe.
use Rattle.std.specs.Prelude.{◌≡◌, ◌≢◌, ◌≤◌, ℕ, zero, suc, pos, ◌+ℤ◌, refl}
use Rattle.std.proofs.Common.{◌∙◌, ap, arith}
use Rattle.std.proofs.Math.IntN.{+ℤ_assoc, +ℤ_comm, +ℤ_idr, +ℤ_invr}
use Rattle.std.proofs.lemmas.Int.{ints}
use Rattle.alg_mono.proofs.Numbers.{*ℤ_assoc, *ℤ_comm, *ℤ_dist}
use Rattle.alg_mono.proofs.Integers.{*ℤ-eq-zero, *ℤ-one}
use Rattle.alg_universe.specs.Ints.{has, zero as nil, one, add, opp, mul, inv, hom, kind, char0, maps}
use Rattle.alg_universe.specs.Laws.{IsUniverse}
use Rattle.alg_universe.specs.Ones.{ones}

-- the sum of n ones is n
pub ones_is : (n : ℕ) → ones (pos 0) (pos 1) ◌+ℤ◌ n ≡ pos n
ones_is zero = refl
ones_is (suc n) = ap (λ w. pos 1 +ℤ w) (ones_is n) ∙ omega (arith, ints)

ones_not_zero : (n : ℕ) → 1 ≤ n → ones (pos 0) (pos 1) ◌+ℤ◌ n ≢ pos 0
ones_not_zero n some h = absurd (omega (arith, ints, ones_is n))

pub laws : IsUniverse has nil one add opp mul inv hom kind char0 maps
laws = record {
  has_prop = λ s x p q. refl;
  has_zero = λ s. tt;
  has_one = λ s. tt;
  has_add = λ s x y p q. tt;
  has_opp = λ s x p. tt;
  has_mul = λ s x y p q. tt;
  has_inv = λ s x p. tt;
  add_assoc = λ s x y z p q r. +ℤ_assoc x y z;
  add_comm = λ s x y p q. +ℤ_comm x y;
  add_zero = λ s x p. +ℤ_idr x;
  add_opp = λ s x p. +ℤ_invr x;
  mul_assoc = λ s x y z p q r. *ℤ_assoc x y z;
  mul_comm = λ s x y p q. *ℤ_comm x y;
  mul_one = λ s x p. *ℤ-one x;
  mul_add = λ s x y z p q r. *ℤ_dist x y z;
  one_not_zero = λ s d h. cc;
  no_divisors = λ s x y d p q h. *ℤ-eq-zero x y h;
  mul_inv = λ s x f p q. absurd f;
  ones_not_zero = λ s n c d some. ones_not_zero n some;
  hom_has = λ h s t x m p. tt;
  hom_zero = λ h s t m. refl;
  hom_one = λ h s t m. refl;
  hom_add = λ h s t x y m p q. refl;
  hom_opp = λ h s t x m p. refl;
  hom_mul = λ h s t x y m p q. refl;
}
