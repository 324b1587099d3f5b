use Rattle.alg_mono.proofs.AtNumbers.{polynomials_are_a_ring}
use Rattle.alg_mono.proofs.laws.polynomials_are_a_ring.Goals as goal

pub returns : goal.returns
returns c = polynomials_are_a_ring
