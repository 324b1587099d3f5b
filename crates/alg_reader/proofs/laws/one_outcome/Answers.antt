use Rattle.alg_reader.proofs.OneOutcome as law
use Rattle.alg_reader.proofs.laws.one_outcome.Goals as goal

pub returns : goal.returns
returns c = law.one_outcome
