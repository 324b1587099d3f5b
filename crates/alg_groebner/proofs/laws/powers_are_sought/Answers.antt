use Rattle.alg_groebner.proofs.CertificatePowers.{powers_are_sought}
use Rattle.alg_groebner.proofs.laws.powers_are_sought.Goals as goal

pub returns : goal.returns
returns c = powers_are_sought
