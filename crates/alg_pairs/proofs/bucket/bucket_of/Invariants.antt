use Rattle.std.proofs.Common.{◌≡◌}
use Rattle.alg_pairs.proofs.bucket.bucket_of.Given as goal

abbrev pub invariant-loop-bucket : goal.invariant-loop-bucket
invariant-loop-bucket l = l.at ≡ l.bucket-index
