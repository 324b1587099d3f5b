use Rattle.alg_mono.proofs.AtNumbers.{no_divisors_of_zero}
use Rattle.alg_mono.proofs.laws.no_zero_divisors.Goals as goal

pub returns : goal.returns
returns c = no_divisors_of_zero
