use Rattle.std.proofs.Common.{length}
use Rattle.alg_horner.proofs.terms.+collected.Given as goal

abbrev pub decreases-collected : goal.decreases-collected
decreases-collected l = length l.terms.now
