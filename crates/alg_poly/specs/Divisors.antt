-- Numbers that divide each coefficient of a polynomial.
use Rattle.std.specs.Prelude.{ℕ, ℤ, pos, ◌*ℤ◌, ◌≤ℤ◌, [], ◌∷◌, All}
use Rattle.std.specs.Int.{◌∣◌}
use Rattle.std.specs.Int.RustNames.{unsigned_abs}
use Rattle.alg_mono.specs.Mono.{Monomial}
use Rattle.alg_mono.specs.NumberedPolynomials.{Polynomial}

-- d divides the magnitude of each coefficient
abbrev pub DividesEach : ℕ → Polynomial → Type 0
DividesEach d p = All (λ (e : Monomial × ℤ). d ∣ unsigned_abs e.1) p

-- d is at least 1, and each coefficient is a multiple of it
abbrev pub IsDivisible : ℤ → Polynomial → Type 0
IsDivisible d p = (pos 1 ≤ℤ d) × DividesEach (unsigned_abs d) p

-- g is the greatest number that divides each coefficient: each such number divides it
pub record IsContent (p : Polynomial) (g : ℕ) : Type 0 where
  pub divides : DividesEach g p
  pub greatest : (d : ℕ) → DividesEach d p → d ∣ g

-- each coefficient d times
abbrev pub times_number : ℤ → Polynomial → Polynomial
times_number d [] = []
times_number d (e ∷ p) = (e.0, d *ℤ e.1) ∷ times_number d p
