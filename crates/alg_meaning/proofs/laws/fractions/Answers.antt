use Rattle.alg_meaning.proofs.FieldLaws.{sides_are_fractions}
use Rattle.alg_meaning.proofs.laws.fractions.Goals as goal

pub returns : goal.returns
returns g c = sides_are_fractions g.U.Universe
