use Rattle.std.proofs.Common.{◌+◌, length}
use Rattle.alg_mono.specs.NumberedPolynomials.{sum_of}
use Rattle.alg_poly.proofs.Moves.{AreLeft}
use Rattle.alg_poly.proofs.merge.merge_moved.Given as goal

abbrev pub invariant-loop-x : goal.invariant-loop-x
invariant-loop-x l = AreLeft (sum_of l.fn.a.items l.fn.b.items) l.a.items l.b.items l.out.items

abbrev pub decreases-loop-x : goal.decreases-loop-x
decreases-loop-x l = length l.a.items + length l.b.items
