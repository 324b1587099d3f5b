use Rattle.alg_meaning.proofs.FreeValues.{values_are_polynomials}
use Rattle.alg_meaning.proofs.laws.values_in_free.Goals as goal

pub returns : goal.returns
returns c = values_are_polynomials
