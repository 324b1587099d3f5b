-- Laws of checking.
use Rattle.std.specs.Prelude.{◌≡◌, ◌<◌, ℕ, ℤ, List, [], Option, Some, length}
use Rattle.alg_terms.specs.declared.file.File.{File}
use Rattle.alg_terms.specs.declared.goals.Goal.{Goal}
use Rattle.alg_terms.specs.declared.term.Term.{Term}
use Rattle.alg_terms.specs.Members.{goal_at, sort_at}
use Rattle.alg_terms.specs.Valid.{IsValid}
use Rattle.alg_universe.specs.declared.universe.Universe.{Ghosts}
use Rattle.alg_universe.specs.Right.{IsRight}
use Rattle.alg_mono.specs.NumberedPolynomials.{Polynomial}
use Rattle.alg_lines.specs.declared.answer.Answer.{Answer}
use Rattle.alg_lines.specs.declared.answer.GoalCheck.{GoalCheck}
use Rattle.alg_lines.specs.declared.cert.Cert.{Cert}
use Rattle.alg_lines.specs.Accepting.{Acceptance, Accepting}
use Rattle.alg_lines.specs.Constants.{constants}
use Rattle.alg_check.specs.Certified.{IsCertified}
use Rattle.alg_check.specs.Reports.{IsReport}

-- a certificate has one acceptance
abbrev pub OneAcceptance : Type 0
OneAcceptance =
    (hyps : List Polynomial) (g : Polynomial) (cert : Cert) (a b : Acceptance) →
    Accepting hyps g cert a → Accepting hyps g cert b → a ≡ b

-- each goal of a valid file that a certificate proves is right, wherever none of the certificate's constants is zero
abbrev pub CertifiedIsRight : {E : Type 0} → Ghosts E → Type 0
CertifiedIsRight u =
    (file : File) (i : ℕ) → IsValid file → i < length file.goals → (cert : Cert) →
    IsCertified file (goal_at file i) cert →
    IsRight u file i [] (constants cert (sort_at file (goal_at file i).equation.sort).char0)

-- a goal with an answer, or with none, has one report
abbrev pub OneReport : Type 0
OneReport =
    (file : File) (goal : Goal) (answer : Option Answer) (r s : GoalCheck) → IsReport file goal answer r →
    IsReport file goal answer s → r ≡ s

-- the conditions and the constants that are printed with an answer
abbrev pub printed_conditions : Answer → List Term
printed_conditions (Answer.Proved conditions) = conditions
printed_conditions _ = []

abbrev pub printed_constants : Answer → List ℤ
printed_constants (Answer.Certified numbers cert) = numbers
printed_constants _ = []

-- each goal of a valid file that is reported proved is right, under what is printed with its answer
abbrev pub ProvedIsRight : {E : Type 0} → Ghosts E → Type 0
ProvedIsRight u =
    (file : File) (i : ℕ) (answer : Answer) → IsValid file → i < length file.goals →
    IsReport file (goal_at file i) (Some answer) GoalCheck.OkProved →
    IsRight u file i (printed_conditions answer) (printed_constants answer)
