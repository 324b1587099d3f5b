use Rattle.alg_mono.proofs.Outcomes.{outcome_says}
use Rattle.alg_mono.proofs.laws.outcomes_say.Goals as goal

pub returns : goal.returns
returns c = outcome_says
