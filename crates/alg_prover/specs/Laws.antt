-- What the answers to goals say.
use Rattle.std.specs.Prelude.{◌≡◌, ◌<◌, ℕ, ℤ, List, [], Some, length, map}
use Rattle.alg_lines.specs.declared.answer.Answer.{Answer}
use Rattle.alg_lines.specs.declared.answer.Answer.TheVariants.{Proved, Certified, No}
use Rattle.alg_lines.specs.declared.cert.Cert.{Cert}
use Rattle.alg_mono.specs.Mono.{Monomial}
use Rattle.alg_printer.specs.Printable.{ArePrintable}
use Rattle.alg_terms.specs.declared.file.File.{File}
use Rattle.alg_terms.specs.declared.goals.Method.TheVariants.{ByRing}
use Rattle.alg_terms.specs.declared.term.Term.{Term}
use Rattle.alg_terms.specs.Members.{goal_at}
use Rattle.alg_terms.specs.Valid.{IsValid}
use Rattle.alg_universe.specs.declared.universe.Universe.{Ghosts}
use Rattle.alg_universe.specs.Right.{IsRight}
use Rattle.alg_reify.specs.RingVerdict.{SidesDiffer}
use Rattle.alg_prover.specs.Answers.{IsAnswer, AreAnswers}

-- the goals of a file have at most one list of answers
abbrev pub OneAnswer : Type 0
OneAnswer = (file : File) (one other : List Answer) → AreAnswers file one → AreAnswers file other → one ≡ other

-- a goal that is answered proved is right, with the conditions of the answer
abbrev pub ProvedIsRight : {E : Type 0} → Ghosts E → Type 0
ProvedIsRight u =
    (file : File) (i : ℕ) (conditions : List Term) → IsValid file → i < length file.goals →
    IsAnswer file (goal_at file i) (Proved conditions) → IsRight u file i conditions []

-- a goal that is answered by a certificate is right, with its constants
abbrev pub CertifiedIsRight : {E : Type 0} → Ghosts E → Type 0
CertifiedIsRight u =
    (file : File) (i : ℕ) (constants : List ℤ) (cert : Cert) → IsValid file → i < length file.goals →
    IsAnswer file (goal_at file i) (Certified constants cert) → IsRight u file i [] constants

-- the sides of a goal by ring that is answered no are different polynomials, with the coefficients of the answer at its
-- monomial, read as atoms
abbrev pub NoDiffers : Type 0
NoDiffers =
    (file : File) (i : ℕ) (at : Monomial) (left right : ℤ) → (goal_at file i).method ≡ ByRing →
    IsAnswer file (goal_at file i) (No at left right) → SidesDiffer file (goal_at file i).equation at left right

-- the answers to the goals of a valid file can be printed
abbrev pub AnswersArePrintable : Type 0
AnswersArePrintable =
    (file : File) (answers : List Answer) → IsValid file → AreAnswers file answers →
    ArePrintable file (map Some answers)
