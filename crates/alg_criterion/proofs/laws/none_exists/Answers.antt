use Rattle.alg_criterion.proofs.Theorem.{none_exists}
use Rattle.alg_criterion.proofs.laws.none_exists.Goals as goal

pub returns : goal.returns
returns c = none_exists
