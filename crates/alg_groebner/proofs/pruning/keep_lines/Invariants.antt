use Rattle.std.proofs.Common.{◌≡◌, ◌≤◌, ◌+◌, ◌-◌, ◌++◌, drop, length}
use Rattle.alg_groebner.specs.Pruning.{kept_lines}
use Rattle.alg_groebner.proofs.pruning.keep_lines.Given as goal

abbrev pub invariant-loop-at : goal.invariant-loop-at
invariant-loop-at l =
    (l.at ≤ length l.made)
    × (l.out.items ++ kept_lines l.numbers (drop (l.given + l.at) l.marks) (drop l.at l.made) ≡ kept_lines l.numbers
    (drop l.given l.marks) l.made)

abbrev pub decreases-loop-at : goal.decreases-loop-at
decreases-loop-at l = length l.made - l.at
