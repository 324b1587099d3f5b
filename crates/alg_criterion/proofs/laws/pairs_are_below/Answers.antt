use Rattle.alg_criterion.proofs.Theorem.{pairs_are_below}
use Rattle.alg_criterion.proofs.laws.pairs_are_below.Goals as goal

pub returns : goal.returns
returns c = pairs_are_below
