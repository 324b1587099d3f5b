use Rattle.alg_meaning.proofs.Uses.{uses_hold}
use Rattle.alg_meaning.proofs.laws.uses.Goals as goal

pub returns : goal.returns
returns g c = uses_hold g.U.Universe
