use Rattle.std.proofs.Common.{◌≡◌, ◌≤◌, ◌+◌, drop, length}
use Rattle.alg_groebner.specs.Pruning.{mark_lines}
use Rattle.alg_groebner.proofs.pruning.mark_through.Given as goal

abbrev pub invariant-loop-at : goal.invariant-loop-at
invariant-loop-at l =
    (l.at ≤ length l.made) × (l.marks.items ≡ mark_lines (l.given + l.at) (drop l.at l.made) l.initial.marks.items)

abbrev pub decreases-loop-at : goal.decreases-loop-at
decreases-loop-at l = l.at
