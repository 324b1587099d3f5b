use Rattle.alg_reify.proofs.FieldVerdicts.{field_no_differs}
use Rattle.alg_reify.proofs.laws.field_no_differs.Goals as goal

pub returns : goal.returns
returns c = field_no_differs
