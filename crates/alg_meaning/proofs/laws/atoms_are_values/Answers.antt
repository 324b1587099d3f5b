use Rattle.alg_meaning.proofs.FreeValues.{atoms_are_values}
use Rattle.alg_meaning.proofs.laws.atoms_are_values.Goals as goal

pub returns : goal.returns
returns c = atoms_are_values
