-- The laws of exponent_laws and integer_laws.
use Rattle.std.specs.Prelude.{◌≡◌, ℕ, ◌+◌, ◌*◌, true, ℤ, pos, negsuc, ◌+ℤ◌, ◌*ℤ◌, suc, ◌≤◌, ◌≢◌}
use Rattle.std.proofs.Common.{refl, sym, ap, arith, add_assoc, add_comm, zero-add}
use Rattle.std.proofs.lemmas.Int.{ints}
use borrow.Author.Tests.{eqb-true}
use mathlib.Core.Bool.{true≢false}
use lib.IntN.{+ℤ_assoc, +ℤ_comm, +ℤ_idl}
use borrow.Author.Differences.{up, down, product_is, sum_is_lem}
use Rattle.alg_mono.specs.Numbers.{Numbers, exponents, naturals, integers, is_zero}
use Rattle.alg_mono.proofs.Totals.{IsSum, IsAmounts}

pub record IsNumbers {A : Type 0} (C : Numbers A) : Type 0 where
  pub amounts : IsAmounts C.amounts
  pub comm : (a b : A) → C.mul a b ≡ C.mul b a
  pub assoc : (a b c : A) → C.mul (C.mul a b) c ≡ C.mul a (C.mul b c)
  pub dist : (a b c : A) → C.mul a (C.amounts.plus b c) ≡ C.amounts.plus (C.mul a b) (C.mul a c)
  pub idl : (a : A) → C.mul C.one a ≡ a
  pub none_mul : (a : A) → C.mul C.amounts.none a ≡ C.amounts.none

pub natural_sum : IsSum 0 ◌+◌
natural_sum = record { assoc = add_assoc; comm = add_comm; idl = zero-add }

pub exponent_laws : IsAmounts exponents
exponent_laws = record { laws = natural_sum; none_is = refl; is_none_only = λ n h. eqb-true n 0 h }

pub is_zero_only : (a : ℤ) → is_zero a ≡ true → a ≡ pos 0
is_zero_only (pos n) h = ap pos (eqb-true n 0 h)
is_zero_only (negsuc n) h = absurd (true≢false (sym h))

pub integer_sum : IsSum (pos 0) ◌+ℤ◌
integer_sum = record { assoc = +ℤ_assoc; comm = +ℤ_comm; idl = +ℤ_idl }

pub *ℤ_comm : (a b : ℤ) → a *ℤ b ≡ b *ℤ a
*ℤ_comm a b = omega (arith, ints)

pub *ℤ_assoc : (a b c : ℤ) → (a *ℤ b) *ℤ c ≡ a *ℤ (b *ℤ c)
*ℤ_assoc a b c = omega (
  arith,
  ints,
  ap (λ (n : ℕ). n * up c) (product_is a b).0,
  ap (λ (n : ℕ). n * down c) (product_is a b).1,
  ap (λ (n : ℕ). n * down c) (product_is a b).0,
  ap (λ (n : ℕ). n * up c) (product_is a b).1,
  ap (λ (n : ℕ). up a * n) (product_is b c).0,
  ap (λ (n : ℕ). down a * n) (product_is b c).1,
  ap (λ (n : ℕ). down a * n) (product_is b c).0,
  ap (λ (n : ℕ). up a * n) (product_is b c).1,
)

pub *ℤ_dist : (a b c : ℤ) → a *ℤ (b +ℤ c) ≡ (a *ℤ b) +ℤ (a *ℤ c)
*ℤ_dist a b c =
    omega (arith, ints, ap (λ (n : ℕ). up a * n) (sum_is_lem b c), ap (λ (n : ℕ). down a * n) (sum_is_lem b c))

pub one-*ℤ : (a : ℤ) → pos 1 *ℤ a ≡ a
one-*ℤ a = omega (arith, ints)

pub zero-*ℤ : (a : ℤ) → pos 0 *ℤ a ≡ pos 0
zero-*ℤ a = omega (arith, ints)

pub integer_laws : IsNumbers integers
integer_laws = record {
  amounts = record { laws = integer_sum; none_is = refl; is_none_only = is_zero_only };
  comm = *ℤ_comm;
  assoc = *ℤ_assoc;
  dist = *ℤ_dist;
  idl = one-*ℤ;
  none_mul = zero-*ℤ;
}

pub natural_laws : IsNumbers naturals
natural_laws = record {
  amounts = exponent_laws;
  comm = λ a b. omega arith;
  assoc = λ a b c. omega arith;
  dist = λ a b c. omega arith;
  idl = λ a. omega arith;
  none_mul = λ a. omega arith;
}

-- one more than a number from 0 on, and it isn't zero
pub one_more : (n : ℕ) → (pos 1 +ℤ pos 0) +ℤ pos n ≡ pos (suc n)
one_more n = omega (arith, ints)

pub some_ones : (n : ℕ) → 1 ≤ n → pos n ≢ pos 0
some_ones n h e = omega (arith, ints, h, e)
