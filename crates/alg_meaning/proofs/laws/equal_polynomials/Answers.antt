use Rattle.alg_meaning.proofs.Equal.{equal_polynomials_lem}
use Rattle.alg_meaning.proofs.laws.equal_polynomials.Goals as goal

pub returns : goal.returns
returns g c = equal_polynomials_lem g.U.Universe
