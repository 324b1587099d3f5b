use Rattle.alg_reify.proofs.FieldRanges.{field_no_is_within_range}
use Rattle.alg_reify.proofs.laws.field_no_is_within_range.Goals as goal

pub returns : goal.returns
returns c = field_no_is_within_range
