use Rattle.std.proofs.Common.{◌≡◌, map}
use Rattle.alg_load.specs.Loaded.{goal_of, numbers}
use Rattle.alg_load.proofs.goals.goals.Given as goal

abbrev pub invariant-loop-i : goal.invariant-loop-i
invariant-loop-i l = l.goals ≡ map goal_of (numbers l.i)
