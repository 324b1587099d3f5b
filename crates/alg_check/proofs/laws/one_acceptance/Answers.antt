use Rattle.alg_check.proofs.Once.{one_acceptance}
use Rattle.alg_check.proofs.laws.one_acceptance.Goals as goal

pub returns : goal.returns
returns c = one_acceptance
