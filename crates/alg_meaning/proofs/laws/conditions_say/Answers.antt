use Rattle.alg_meaning.proofs.ConditionWords.{conditions_say}
use Rattle.alg_meaning.proofs.laws.conditions_say.Goals as goal

pub returns : goal.returns
returns c = conditions_say
