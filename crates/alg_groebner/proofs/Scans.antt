-- A line that is not zero is there.
use Rattle.std.specs.Prelude.{◌≢◌, ℕ, zero, suc, ◌<◌, ◌≤◌, List, [], length}
use Rattle.std.proofs.Common.{refl, arith}
use Rattle.std.proofs.Math.Nat.{lt_of_not-le}
use Rattle.std.proofs.lemmas.List.{get_or_past}
use Rattle.alg_mono.specs.NumberedPolynomials.{Polynomial}
use Rattle.alg_lines.specs.Lines.{line_at}
use Rattle.alg_groebner.specs.Sound.{IsNumber, IsThere}

-- a line that is not zero is there
pub there_number : (lines : List Polynomial) (k : ℕ) → IsThere lines k → IsNumber lines k
there_number lines zero h = absurd (h refl)
there_number lines (suc k) h = (omega arith, omega (arith, inside lines k h))
  where
    inside : (lines : List Polynomial) (k : ℕ) → line_at lines (suc k) ≢ [] → k < length lines
    inside lines k h = less (length lines) k (λ past. h (get_or_past lines k [] past))
      where
        less : (n k : ℕ) → (n ≤ k → ⊥) → k < n
        less n k f = lt_of_not-le f
