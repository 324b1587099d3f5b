-- Exponents, and the numbers that polynomials have as coefficients.
use Rattle.std.specs.Prelude.{ℕ, Bool, false, ◌+◌, ◌*◌, ◌==◌, ℤ, pos, negsuc, ◌+ℤ◌, ◌*ℤ◌}
use Rattle.alg_mono.specs.FiniteMaps.{Amounts}

-- amounts that multiply
pub record Numbers (A : Type 0) : Type 0 where
  pub amounts : Amounts A
  pub one : A
  pub mul : A → A → A

-- exponents add up, and 0 is none
abbrev pub exponents : Amounts ℕ
exponents = record { none = 0; plus = ◌+◌; is_none = λ n. n == 0 }

abbrev pub is_zero : ℤ → Bool
is_zero (pos n) = n == 0
is_zero (negsuc n) = false

-- the whole numbers
abbrev pub integers : Numbers ℤ
integers = record {
  amounts = record { none = pos 0; plus = ◌+ℤ◌; is_none = is_zero };
  one = pos 1;
  mul = ◌*ℤ◌;
}

-- the natural numbers
abbrev pub naturals : Numbers ℕ
naturals = record { amounts = exponents; one = 1; mul = ◌*◌ }
