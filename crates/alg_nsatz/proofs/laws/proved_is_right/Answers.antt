use Rattle.alg_nsatz.proofs.Right.{proved_is_right}
use Rattle.alg_nsatz.proofs.laws.proved_is_right.Goals as goal

pub returns : goal.returns
returns g c = proved_is_right g.U.Universe c.certified_is_right.ensures c.certificates_are_good.ensures
