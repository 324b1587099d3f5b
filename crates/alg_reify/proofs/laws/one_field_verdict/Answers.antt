use Rattle.alg_reify.proofs.FieldVerdicts.{one_field_verdict}
use Rattle.alg_reify.proofs.laws.one_field_verdict.Goals as goal

pub returns : goal.returns
returns c = one_field_verdict
