-- Fractions: pairs of a numerator and a denominator, and the reduced ones.
use Rattle.std.specs.Prelude.{◌≡◌, ◌≤◌, ◌*◌, ◌/◌, ◌%◌, ◌==◌, ◌&&◌, ℕ, zero, suc, ℤ, pos, negsuc, ◌+ℤ◌, ◌*ℤ◌, if◌then◌else◌}
use Rattle.std.specs.Int.{◌∣◌}
use Rattle.std.proofs.Math.IntN.{neg_ℤ, nat_abs}

-- a numerator over a denominator
abbrev pub Fraction : Type 0
Fraction = ℤ × ℕ

-- the denominator is positive, and coprime to the numerator: no number but 1 divides both
pub record IsReduced (x : Fraction) : Type 0 where
  pub positive : 1 ≤ x.1
  pub coprime : (d : ℕ) → d ∣ nat_abs x.0 → d ∣ x.1 → d ≡ 1

-- the greatest number up to n that divides both a and b
abbrev pub divisor_to : ℕ → ℕ → ℕ → ℕ
divisor_to zero a b = 1
divisor_to (suc n) a b = if (a % suc n == 0) && (b % suc n == 0) then suc n else divisor_to n a b

-- the greatest common divisor of numerator and denominator
abbrev pub divisor : Fraction → ℕ
divisor x = divisor_to x.1 (nat_abs x.0) x.1

-- an integer over a divisor of it
abbrev pub over : ℤ → ℕ → ℤ
over (pos n) d = pos (n / d)
over (negsuc n) d = neg_ℤ (pos (suc n / d))

-- a fraction in lowest terms
abbrev pub reduce : Fraction → Fraction
reduce x = (over x.0 (divisor x), x.1 / divisor x)

-- sums, opposites and products of fractions, not reduced
abbrev pub plus : Fraction → Fraction → Fraction
plus x y = (x.0 *ℤ pos y.1 +ℤ y.0 *ℤ pos x.1, x.1 * y.1)

abbrev pub opposite : Fraction → Fraction
opposite x = (neg_ℤ x.0, x.1)

abbrev pub times : Fraction → Fraction → Fraction
times x y = (x.0 *ℤ y.0, x.1 * y.1)

-- denominator over numerator, with the sign above; the inverse of zero is zero
abbrev pub inverse_of : ℤ → ℕ → Fraction
inverse_of (pos zero) b = (pos 0, 1)
inverse_of (pos (suc n)) b = (pos b, suc n)
inverse_of (negsuc n) b = (neg_ℤ (pos b), suc n)

abbrev pub inverse : Fraction → Fraction
inverse x = inverse_of x.0 x.1
