-- How the goals by ring and by field are decided anew.
use Rattle.std.specs.Prelude.{◌≡◌, List}
use Rattle.alg_terms.specs.declared.term.Term.{Term}
use Rattle.alg_mono.specs.NumberedPolynomials.{Polynomial, DifferFirst}
use Rattle.alg_lines.specs.declared.answer.Answer.{Answer}
use Rattle.alg_reify.specs.declared.stop.Stop.{Stop}

-- two polynomials are equal, under these conditions, or they first differ so
abbrev pub IsComparison : Polynomial → Polynomial → List Term → Answer → Type 0
IsComparison p q conditions (Answer.Proved all) = (p ≡ q) × (all ≡ conditions)
IsComparison p q conditions (Answer.No at left right) = DifferFirst p q at left right
IsComparison p q conditions _ = ⊥

-- the answer of the stop's name; want of memory is no answer
abbrev pub IsStopped : Stop → Answer → Type 0
IsStopped Stop.Atoms answer = answer ≡ Answer.Atoms
IsStopped Stop.Range answer = answer ≡ Answer.Range
IsStopped Stop.Degree answer = answer ≡ Answer.Degree
IsStopped Stop.NoMemory answer = ⊥

-- the answer has no certificate
abbrev pub HasNoCertificate : Answer → Type 0
HasNoCertificate (Answer.Certified numbers cert) = ⊥
HasNoCertificate _ = Unit {0}
