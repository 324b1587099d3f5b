use Rattle.alg_reify.proofs.MayStand.{field_terms}
use Rattle.alg_reify.proofs.laws.field_terms_may_stand.Goals as goal

pub returns : goal.returns
returns c = field_terms c.conditions_say.ensures
