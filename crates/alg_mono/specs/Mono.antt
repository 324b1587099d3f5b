-- Monomials over atoms by number.
use Rattle.std.specs.Prelude.{ℕ, List, ◌≤◌}
use Rattle.std.specs.Ordering.{nat_cmp}
use Rattle.alg_mono.specs.Monomials.{exponent}

-- a monomial: numbers of atoms with their exponents
abbrev pub Monomial : Type 0
Monomial = List (ℕ × ℕ)

-- the pair's exponent is at most that of its atom in m
abbrev pub FitsIn : Monomial → ℕ × ℕ → Type 0
FitsIn m pair = pair.1 ≤ exponent nat_cmp pair.0 m
