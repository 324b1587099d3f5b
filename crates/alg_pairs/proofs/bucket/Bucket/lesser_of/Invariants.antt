use Rattle.std.proofs.Common.{◌≡◌, drop}
use Rattle.alg_pairs.specs.Buckets.{lesser, least_of}
use Rattle.alg_pairs.proofs.bucket.Bucket.lesser_of.Given as goal

abbrev pub invariant-loop-lead : goal.invariant-loop-lead
invariant-loop-lead l =
    lesser l.least (least_of l.m (drop l.lead-index l.self.leads.items))
    ≡ lesser l.initial.least (least_of l.m l.self.leads.items)
