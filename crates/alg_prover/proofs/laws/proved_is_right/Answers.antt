use Rattle.alg_prover.proofs.Verdicts.{proved_is_right, certified_is_right}
use Rattle.alg_prover.proofs.laws.proved_is_right.Goals as goal

pub returns-clause-proved : goal.returns-clause-proved
returns-clause-proved g c = proved_is_right g.U.Universe c.proved_is_right.ensures c.proved_is_right-2.ensures

pub returns-clause-certified : goal.returns-clause-certified
returns-clause-certified g c = certified_is_right g.U.Universe c.proved_is_right-3.ensures
