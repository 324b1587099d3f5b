use Rattle.alg_reify.proofs.FieldVerdicts.{field_no_is_over_the_table}
use Rattle.alg_reify.proofs.laws.field_no_is_over_the_table.Goals as goal

pub returns : goal.returns
returns c = field_no_is_over_the_table
