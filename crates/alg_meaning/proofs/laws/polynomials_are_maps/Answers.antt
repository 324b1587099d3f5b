use Rattle.alg_mono.proofs.Maps.{polynomials_are_maps}
use Rattle.alg_meaning.specs.Atoms.{atom_cmp}
use Rattle.alg_meaning.specs.Orders.{atom_total, atom_anti}
use Rattle.alg_meaning.proofs.laws.polynomials_are_maps.Goals as goal

pub returns : goal.returns
returns c = polynomials_are_maps atom_cmp atom_total atom_anti
