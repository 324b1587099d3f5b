use Rattle.std.proofs.Common.{◌≡◌, ◌≤◌, length, take}
use Rattle.alg_reader.specs.Parts.{opposites_part}
use Rattle.alg_reader.proofs.parts.opposites.Given as goal

abbrev pub invariant-loop-left : goal.invariant-loop-left
invariant-loop-left l = (l.left ≤ length l.heads)
    × (opposites_part (take l.left l.heads) l.part ≡ opposites_part l.heads l.fn.of)

abbrev pub decreases-loop-left : goal.decreases-loop-left
decreases-loop-left l = l.left
