use Rattle.alg_check.proofs.CertificateValues.{certificates_hold}
use Rattle.alg_check.proofs.laws.certificates.Goals as goal

pub returns : goal.returns
returns g c = certificates_hold g.U.Universe
