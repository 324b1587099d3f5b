use Rattle.alg_check.proofs.Right.{proved_is_right}
use Rattle.alg_check.proofs.laws.proved_is_right.Goals as goal

pub returns : goal.returns
returns g c = proved_is_right g.U.Universe c.equal_numerators.ensures c.certified_is_right.ensures
