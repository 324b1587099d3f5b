use Rattle.std.proofs.Common.{length}
use Rattle.alg_poly.proofs.product.+multiply.Given as goal

abbrev pub decreases-multiply : goal.decreases-multiply
decreases-multiply l = length l.a.now
