use Rattle.alg_reify.proofs.FieldVerdicts.{sides_by_numbers}
use Rattle.alg_reify.proofs.laws.sides_by_numbers.Goals as goal

pub returns : goal.returns
returns c = sides_by_numbers
