use Rattle.alg_meaning.proofs.FreeValues.{different_polynomials}
use Rattle.alg_meaning.proofs.laws.different_in_free.Goals as goal

pub returns : goal.returns
returns c = different_polynomials
