use Rattle.alg_reify.proofs.Right.{ring_is_right}
use Rattle.alg_ring.proofs.laws.proved_is_right.Goals as goal

pub returns : goal.returns
returns g c = ring_is_right g.U.Universe
