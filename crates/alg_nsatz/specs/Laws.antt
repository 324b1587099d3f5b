-- What holds of the verdicts by nsatz.
use Rattle.std.specs.Prelude.{◌≡◌, ◌<◌, ◌≤◌, ℕ, ℤ, List, [], length, All, Some}
use Rattle.alg_terms.specs.declared.file.File.{File}
use Rattle.alg_terms.specs.declared.goals.Goal.{Goal}
use Rattle.alg_terms.specs.GoalRules.{IsGoal, IsHyp}
use Rattle.alg_terms.specs.Members.{goal_at, uses_of}
use Rattle.alg_terms.specs.Valid.{IsValid}
use Rattle.alg_universe.specs.declared.universe.Universe.{Ghosts}
use Rattle.alg_universe.specs.Right.{IsRight}
use Rattle.alg_lines.specs.declared.answer.Answer.TheVariants.{Certified}
use Rattle.alg_lines.specs.declared.answer.GoalCheck.TheVariants.{OkProved}
use Rattle.alg_lines.specs.declared.cert.Cert.{Cert}
use Rattle.alg_check.specs.Reports.{IsReport}
use Rattle.alg_groebner.specs.Within.{IsCertWithin, IsMagnitude}
use Rattle.alg_reify.specs.Table.{MAX_ATOMS, table}
use Rattle.alg_nsatz.specs.Verdict.{NsatzVerdict, IsNsatzVerdict}

-- a goal has at most one verdict
abbrev pub OneNsatzVerdict : Type 0
OneNsatzVerdict =
    (file : File) (goal : Goal) (v w : NsatzVerdict) → IsNsatzVerdict file goal v → IsNsatzVerdict file goal w → v ≡ w

-- the certificate of a goal of the file whose verdict is Proved is within the limits and over the atoms of the goal's
-- table, which are few, and so are its constants
abbrev pub ProvedIsWithin : Type 0
ProvedIsWithin =
    (file : File) (goal : Goal) → All (IsHyp file) file.hyps → IsGoal file goal → (constants : List ℤ) (cert : Cert) →
    IsNsatzVerdict file goal (NsatzVerdict.Proved constants cert) →
    let atoms = table file goal.equation (uses_of goal.method) in
    (length atoms ≤ MAX_ATOMS) × IsCertWithin (length atoms) cert × All IsMagnitude constants

-- each goal by nsatz of a valid file is right where its verdict is Proved, wherever none of the constants is zero
abbrev pub ProvedIsRight : {E : Type 0} → Ghosts E → Type 0
ProvedIsRight u =
    (file : File) (i : ℕ) → IsValid file → i < length file.goals → (constants : List ℤ) (cert : Cert) →
    IsNsatzVerdict file (goal_at file i) (NsatzVerdict.Proved constants cert) → IsRight u file i [] constants

-- the certificate of such a goal, printed with its constants, is accepted
abbrev pub ProvedIsAccepted : Type 0
ProvedIsAccepted =
    (file : File) (i : ℕ) → IsValid file → i < length file.goals → (constants : List ℤ) (cert : Cert) →
    IsNsatzVerdict file (goal_at file i) (NsatzVerdict.Proved constants cert) →
    IsReport file (goal_at file i) (Some (Certified constants cert)) OkProved
