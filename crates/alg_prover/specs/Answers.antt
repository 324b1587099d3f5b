-- The answers to the goals of a file.
use Rattle.std.specs.Prelude.{◌≡◌, List}
use Rattle.std.specs.List.{AllZip}
use Rattle.alg_terms.specs.declared.file.File.{File}
use Rattle.alg_terms.specs.declared.goals.Equation.{Equation}
use Rattle.alg_terms.specs.declared.goals.Goal.{Goal}
use Rattle.alg_terms.specs.declared.goals.Method.{Method}
use Rattle.alg_terms.specs.declared.goals.Method.TheVariants.{ByRing, ByField, ByNsatz}
use Rattle.alg_lines.specs.declared.answer.Answer.{Answer}
use Rattle.alg_lines.specs.declared.answer.Answer.TheVariants.{Certified, NoneUpTo, GaveUp, Atoms, Range, Degree}
use Rattle.alg_reify.specs.declared.stop.Stop.{Stop}
use Rattle.alg_reify.specs.Answers.{IsFieldAnswer, IsRingAnswer}
use Rattle.alg_nsatz.specs.Verdict.{NsatzVerdict, IsVerdictOf}

-- a verdict by nsatz as an answer: what is proved is so by a certificate
abbrev pub nsatz_answer_of : NsatzVerdict → Answer
nsatz_answer_of NsatzVerdict.Atoms = Atoms
nsatz_answer_of NsatzVerdict.Range = Range
nsatz_answer_of NsatzVerdict.Degree = Degree
nsatz_answer_of (NsatzVerdict.Proved constants cert) = Certified constants cert
nsatz_answer_of (NsatzVerdict.NoneUpTo power) = NoneUpTo power
nsatz_answer_of (NsatzVerdict.GaveUp limit) = GaveUp limit

-- the answer to an equation by a method
abbrev pub IsAnswerBy : File → Equation → Method → Answer → Type 0
IsAnswerBy file e ByRing answer = IsRingAnswer file e answer
IsAnswerBy file e ByField answer = IsFieldAnswer file e answer
IsAnswerBy file e (ByNsatz uses power limit) answer =
    (verdict : NsatzVerdict) × IsVerdictOf file e uses power limit verdict × (answer ≡ nsatz_answer_of verdict)

-- the answer to a goal
abbrev pub IsAnswer : File → Goal → Answer → Type 0
IsAnswer file goal answer = IsAnswerBy file goal.equation goal.method answer

-- a stop of the decision is the answer of its name; want of memory says nothing
abbrev pub StopsWith : File → Goal → Stop → Type 0
StopsWith file goal Stop.Atoms = IsAnswer file goal Atoms
StopsWith file goal Stop.Range = IsAnswer file goal Range
StopsWith file goal Stop.Degree = IsAnswer file goal Degree
StopsWith file goal Stop.NoMemory = Unit {0}

-- one answer for each goal of the file, in their order
abbrev pub AreAnswers : File → List Answer → Type 0
AreAnswers file answers = AllZip (IsAnswer file) file.goals answers
