-- The reports on the answers that a file has, and what they say.
use Rattle.std.specs.Prelude.{◌≡◌, ℕ, Bool, true, false, if◌then◌else◌, List, Option, None, Some, Ok, length, slice_get, slice_index_or}
use Rattle.std.specs.List.{list_all}
use Rattle.alg_annotated.specs.declared.annotated.Annotated.{Annotated}
use Rattle.alg_annotated.specs.Reading.{IsAnnotatedReadingOf}
use Rattle.alg_check.specs.Laws.{printed_conditions, printed_constants}
use Rattle.alg_check.specs.Reports.{IsReport}
use Rattle.alg_lines.specs.declared.answer.Answer.{Answer}
use Rattle.alg_lines.specs.declared.answer.GoalCheck.{GoalCheck}
use Rattle.alg_lines.specs.declared.answer.GoalCheck.TheVariants.{OkProved, OkOther}
use Rattle.alg_printer.specs.Reports.{reports_text}
use Rattle.alg_terms.specs.declared.file.File.{File}
use Rattle.alg_terms.specs.Members.{goal_at}
use Rattle.alg_universe.specs.declared.universe.Universe.{Ghosts}
use Rattle.alg_universe.specs.Right.{IsRight}
use Rattle.alg_cli.specs.declared.status.Status.{Status}
use Rattle.alg_cli.specs.declared.status.Status.TheVariants.{Done, NotAll}

-- there is one report for each goal of the file, in their order, on its answer or on its having none
pub record AreReports (file : File) (answers : List (Option Answer)) (reports : List GoalCheck) : Type 0 where
  pub count : length reports ≡ length file.goals
  pub each : (i : ℕ) (report : GoalCheck) → slice_get reports i ≡ Some report →
      IsReport file (goal_at file i) (slice_index_or answers i None) report

-- a report that the goal's answer is its own
abbrev pub is_ok : GoalCheck → Bool
is_ok OkProved = true
is_ok OkOther = true
is_ok _ = false

-- a check is done where each answer is
abbrev pub status_of_reports : List GoalCheck → Status
status_of_reports reports = if list_all is_ok reports then Done else NotAll

-- the goal has an answer, and is right in the universe, with the conditions or the constants that are printed with it
abbrev pub IsRightAsPrinted : {E : Type 0} → Ghosts E → File → ℕ → Option Answer → Type 0
IsRightAsPrinted u file i None = ⊥
IsRightAsPrinted u file i (Some answer) = IsRight u file i (printed_conditions answer) (printed_constants answer)

-- and each goal that is reported proved is so
abbrev pub ReportedAreRight : {E : Type 0} → Ghosts E → Annotated → List GoalCheck → Type 0
ReportedAreRight u all reports =
    (i : ℕ) → slice_get reports i ≡ Some OkProved → IsRightAsPrinted u all.file i (slice_index_or all.answers i None)

-- the text is the reports on all goals of an annotated file, and the status is that of the reports
pub record IsCheckReply (all : Annotated) (text : List ℕ) (status : Status) : Type 0 where
  pub reports : List GoalCheck
  pub are_reports : AreReports all.file all.answers reports
  pub writes : text ≡ reports_text reports
  pub ends : status ≡ status_of_reports reports

-- the bytes are an annotated file, and the text is the reports on its goals, which are right where it says so
pub record IsReported {E : Type 0} (u : Ghosts E) (bytes text : List ℕ) (status : Status) : Type 0 where
  pub all : Annotated
  pub reads : IsAnnotatedReadingOf bytes (Ok all)
  pub reply : IsCheckReply all text status
  pub right : ReportedAreRight u all reply.reports
