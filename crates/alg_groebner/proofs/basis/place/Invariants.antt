use Rattle.std.proofs.Common.{length, ◌-◌}
use Rattle.alg_pairs.proofs.Places.{Decides}
use Rattle.alg_groebner.specs.Work.{member_cmp}
use Rattle.alg_groebner.proofs.basis.place.Given as goal

abbrev pub invariant-loop-at : goal.invariant-loop-at
invariant-loop-at l = Decides member_cmp l.members.items l.member l.at

abbrev pub decreases-loop-at : goal.decreases-loop-at
decreases-loop-at l = length l.members.items - l.at
