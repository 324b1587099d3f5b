use Rattle.alg_reify.proofs.Coefficients.{numbered_coefficients}
use Rattle.alg_reify.proofs.laws.numbered_coefficients.Goals as goal

pub returns : goal.returns
returns c = numbered_coefficients
