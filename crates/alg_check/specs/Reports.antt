-- The report on the answer to a goal.
use Rattle.std.specs.Prelude.{◌≡◌, ◌+◌, ◌^◌, ◌<◌, ◌≤◌, ◌⊎◌, ℕ, ℤ, List, length, Option, Some, None}
use Rattle.alg_terms.specs.declared.file.File.{File}
use Rattle.alg_terms.specs.declared.goals.Equation.{Equation}
use Rattle.alg_terms.specs.declared.goals.Goal.{Goal}
use Rattle.alg_terms.specs.declared.goals.Method.{Method}
use Rattle.alg_terms.specs.declared.goals.Method.TheVariants.{ByRing, ByField, ByNsatz}
use Rattle.alg_terms.specs.declared.goals.Use.{Use}
use Rattle.alg_terms.specs.Members.{sort_at}
use Rattle.alg_mono.specs.NumberedPolynomials.{Polynomial}
use Rattle.alg_mono.specs.Outcomes.{Outcome}
use Rattle.alg_lines.specs.declared.answer.Answer.{Answer}
use Rattle.alg_lines.specs.declared.answer.GoalCheck.{GoalCheck}
use Rattle.alg_lines.specs.declared.cert.Cert.{Cert}
use Rattle.alg_lines.specs.Accepting.{Acceptance, Accepting}
use Rattle.alg_lines.specs.Constants.{constants}
use Rattle.alg_reify.specs.Answers.{IsRingAnswer, IsFieldAnswer}
use Rattle.alg_reify.specs.declared.stop.Stop.{Stop}
use Rattle.alg_reify.specs.Preparing.{PreparesTo, StopsPreparing, prepared_goal, prepared_hyps}

-- the answer says that the goal is proved under conditions
abbrev pub IsProof : Answer → Type 0
IsProof (Answer.Proved conditions) = Unit {0}
IsProof _ = ⊥

-- the report on an answer by ring or by field, where `right` says that it is the goal's
abbrev pub Compares : Type 0 → Answer → GoalCheck → Type 0
Compares right answer GoalCheck.OkProved = right × IsProof answer
Compares right answer GoalCheck.OkOther = right × (IsProof answer → ⊥)
Compares right answer (GoalCheck.Bad at) = (right → ⊥) × (at ≡ 0)
Compares right answer _ = ⊥

-- the report on a certificate that comes to this, where `right` says that the printed constants are its own
abbrev pub Judges : Type 0 → Acceptance → GoalCheck → Type 0
Judges right Acceptance.Good report =
    (right × (report ≡ GoalCheck.OkProved)) ⊎ ((right → ⊥) × (report ≡ GoalCheck.Bad 0))
Judges right (Acceptance.Bad at) report = report ≡ GoalCheck.Bad at
Judges right Acceptance.Range report = report ≡ GoalCheck.Range
Judges right Acceptance.Degree report = report ≡ GoalCheck.Degree

-- the certificate, tried on hypotheses and a goal, comes to something, and this is the report on it
abbrev pub Judged : List Polynomial → Polynomial → Cert → Type 0 → GoalCheck → Type 0
Judged hyps goal cert right report = (a : Acceptance) × Accepting hyps goal cert a × Judges right a report

-- the report where nothing can be prepared; want of memory has none
abbrev pub StopReport : Stop → GoalCheck → Type 0
StopReport Stop.Atoms report = report ≡ GoalCheck.Atoms
StopReport Stop.Range report = report ≡ GoalCheck.Range
StopReport Stop.Degree report = report ≡ GoalCheck.Degree
StopReport Stop.NoMemory report = ⊥

-- an equation with used hypotheses, of which powers up to this one may be proved, and an answer with constants and a
-- certificate
module _ (file : File) (e : Equation) (uses : List Use) (power : ℕ) (numbers : List ℤ) (cert : Cert) where
  -- the certificate's power is from 1 to the goal's
  abbrev pub HasGoalPower : Type 0
  HasGoalPower = (1 ≤ cert.power) × (cert.power ≤ power)

  -- the printed constants are the certificate's
  abbrev pub HasConstants : Type 0
  HasConstants = numbers ≡ constants cert (sort_at file e.sort).char0

  -- the report, in the order in which is tried: the power, then what is prepared, and then the certificate on it
  pub data IsCertReport (report : GoalCheck) : Type 0 where
    bad_power : (HasGoalPower → ⊥) → report ≡ GoalCheck.Bad 0 → IsCertReport report
    stopped : (stop : Stop) → HasGoalPower → StopsPreparing file e uses stop → StopReport stop report →
        IsCertReport report
    tried : HasGoalPower → PreparesTo file e uses Outcome.Fine →
        Judged (prepared_hyps file e uses) (prepared_goal file e uses) cert HasConstants report →
        IsCertReport report

-- the report on an answer to an equation with used hypotheses: only certificates are checked
abbrev pub IsNsatzReport : File → Equation → List Use → ℕ → Answer → GoalCheck → Type 0
IsNsatzReport file e uses power (Answer.Certified numbers cert) report =
    IsCertReport file e uses power numbers cert report
IsNsatzReport file e uses power _ report = report ≡ GoalCheck.Unchecked

-- the report on an answer to an equation by a method
abbrev pub IsReportBy : File → Equation → Method → Answer → GoalCheck → Type 0
IsReportBy file e ByRing answer report = Compares (IsRingAnswer file e answer) answer report
IsReportBy file e ByField answer report = Compares (IsFieldAnswer file e answer) answer report
IsReportBy file e (ByNsatz uses power limit) answer report = IsNsatzReport file e uses power answer report

-- the report on a goal with an answer, or with none
abbrev pub IsReport : File → Goal → Option Answer → GoalCheck → Type 0
IsReport file goal None report = report ≡ GoalCheck.Unchecked
IsReport file goal (Some answer) report = IsReportBy file goal.equation goal.method answer report

-- a certificate's lines and steps are together with the uses fewer than 2^31
abbrev pub IsFew : List Use → Answer → Type 0
IsFew uses (Answer.Certified numbers cert) = length uses + length cert.lines + length cert.steps < 2 ^ 31
IsFew uses _ = Unit {0}
