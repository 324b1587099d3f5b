use Rattle.alg_universe.proofs.Elements.{values_are_elements}
use Rattle.alg_universe.proofs.laws.values_are_elements.Goals as goal

pub returns : goal.returns
returns g c = values_are_elements g.U.Universe
