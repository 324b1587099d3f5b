use Rattle.std.specs.Ordering.{nat_cmp}
use Rattle.std.specs.Cmp.{nat_cmp_total}
use Rattle.std.specs.FinMap.{nat_cmp-IsAntisymmetric}
use Rattle.alg_mono.proofs.Maps.{polynomials_are_maps}
use Rattle.alg_mono.proofs.laws.polynomials_are_maps.Goals as goal

pub returns : goal.returns
returns c = polynomials_are_maps nat_cmp nat_cmp_total nat_cmp-IsAntisymmetric
