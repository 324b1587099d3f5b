use Rattle.std.proofs.Common.{◌≡◌, ◌+◌}
use Rattle.alg_terms.specs.Term.{depth_of}
use Rattle.alg_terms.proofs.tests.tower.Given as goal

abbrev pub invariant-loop-turn : goal.invariant-loop-turn
invariant-loop-turn l = depth_of l.term ≡ l.turn + 1
