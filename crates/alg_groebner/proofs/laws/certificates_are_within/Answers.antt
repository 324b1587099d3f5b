use Rattle.alg_groebner.proofs.CertificateBounds.{certificates_are_within}
use Rattle.alg_groebner.proofs.laws.certificates_are_within.Goals as goal

pub returns : goal.returns
returns c = certificates_are_within
