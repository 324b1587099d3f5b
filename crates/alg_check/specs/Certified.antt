-- When a certificate proves a goal.
use Rattle.alg_terms.specs.declared.file.File.{File}
use Rattle.alg_terms.specs.declared.goals.Equation.{Equation}
use Rattle.alg_terms.specs.declared.goals.Goal.{Goal}
use Rattle.alg_terms.specs.declared.goals.Method.{Method}
use Rattle.alg_terms.specs.declared.goals.Method.TheVariants.{ByRing, ByField, ByNsatz}
use Rattle.alg_lines.specs.declared.cert.Cert.{Cert}
use Rattle.alg_lines.specs.Accepting.{IsGood}
use Rattle.alg_reify.specs.Preparing.{prepared_goal, prepared_hyps}

-- the method is nsatz, and the certificate is good over the polynomials that are prepared for the equation
abbrev pub IsCertifiedBy : File → Equation → Method → Cert → Type 0
IsCertifiedBy file e ByRing cert = ⊥
IsCertifiedBy file e ByField cert = ⊥
IsCertifiedBy file e (ByNsatz uses power limit) cert =
    IsGood (prepared_hyps file e uses) (prepared_goal file e uses) cert

-- the certificate proves the goal
abbrev pub IsCertified : File → Goal → Cert → Type 0
IsCertified file goal cert = IsCertifiedBy file goal.equation goal.method cert
