use Rattle.std.proofs.Common.{ap}
use Rattle.alg_horner.specs.Maps.{map_of}
use Rattle.alg_horner.proofs.Unique.{same_map}
use Rattle.alg_horner.proofs.laws.equal_maps.Goals as goal

pub returns : goal.returns
returns c = λ f g h k. (λ e. ap (map_of 0) e, same_map f g h k)
