use Rattle.alg_criterion.proofs.Theorem.{lines_are_combinations}
use Rattle.alg_criterion.proofs.laws.lines_are_combinations.Goals as goal

pub returns : goal.returns
returns c = lines_are_combinations
