use Rattle.alg_mono.proofs.AtNumbers.{lcm_is_least}
use Rattle.alg_mono.proofs.laws.lcm_is_least.Goals as goal

pub returns : goal.returns
returns c = lcm_is_least
