use Rattle.alg_reify.proofs.FieldOccurring.{field_terms_occur}
use Rattle.alg_reify.proofs.laws.field_terms_occur.Goals as goal

pub returns : goal.returns
returns c = field_terms_occur c.conditions_say.ensures
