use Rattle.std.proofs.Common.{◌≡◌, drop}
use Rattle.alg_pairs.specs.Buckets.{is_there}
use Rattle.alg_pairs.proofs.index.has_line.Given as goal

abbrev pub invariant-loop-lead : goal.invariant-loop-lead
invariant-loop-lead l = is_there l.line (drop l.lead-index l.leads) ≡ is_there l.line l.leads
