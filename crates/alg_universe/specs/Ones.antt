-- Sums of ones.
use Rattle.std.specs.Prelude.{ℕ, zero, suc}

-- the sum of n ones, where `nil` is zero
abbrev pub ones : {E : Type 0} → E → E → (E → E → E) → ℕ → E
ones nil one add zero = nil
ones nil one add (suc n) = add one (ones nil one add n)
