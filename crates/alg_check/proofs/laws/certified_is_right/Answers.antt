use Rattle.alg_check.proofs.CertifiedGoals.{certified_is_right}
use Rattle.alg_check.proofs.laws.certified_is_right.Goals as goal

pub returns : goal.returns
returns g c = certified_is_right g.U.Universe c.uses.ensures
