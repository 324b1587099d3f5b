use Rattle.alg_meaning.proofs.FieldLaws.{equal_numerators}
use Rattle.alg_meaning.proofs.laws.equal_numerators.Goals as goal

pub returns : goal.returns
returns g c = equal_numerators g.U.Universe
