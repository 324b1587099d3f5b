use Rattle.std.proofs.Common.{length, ◌-◌}
use Rattle.alg_pairs.specs.Leads.{line_cmp}
use Rattle.alg_pairs.proofs.Places.{Decides}
use Rattle.alg_pairs.proofs.index.place.Given as goal

abbrev pub invariant-loop-at : goal.invariant-loop-at
invariant-loop-at l = Decides line_cmp l.leads.items l.lead l.at

abbrev pub decreases-loop-at : goal.decreases-loop-at
decreases-loop-at l = length l.leads.items - l.at
