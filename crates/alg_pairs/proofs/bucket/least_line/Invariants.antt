use Rattle.std.proofs.Common.{◌≡◌, drop}
use Rattle.alg_pairs.specs.Buckets.{lesser, least_in}
use Rattle.alg_pairs.proofs.bucket.least_line.Given as goal

abbrev pub invariant-loop-bucket : goal.invariant-loop-bucket
invariant-loop-bucket l = lesser l.least (least_in l.m (drop l.bucket-index l.buckets)) ≡ least_in l.m l.buckets
