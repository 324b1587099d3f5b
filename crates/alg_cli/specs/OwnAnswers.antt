-- What is reported on the answers that are given to goals.
use Rattle.std.specs.Prelude.{◌<◌, ℕ, List, [], ◌∷◌, length, map, Ok, Some}
use Rattle.alg_annotated.specs.Reading.{IsAnnotatedReadingOf}
use Rattle.alg_printer.specs.Text.{text_of}
use Rattle.alg_reading_back.specs.ReadingAnswers.{AnswersOpenFew}
use Rattle.alg_terms.specs.declared.goals.Goal.{Goal}
use Rattle.alg_terms.specs.declared.file.File.{File}
use Rattle.alg_terms.specs.declared.goals.Method.{Method}
use Rattle.alg_terms.specs.declared.goals.Method.TheVariants.{ByNsatz}
use Rattle.alg_terms.specs.Members.{goal_at}
use Rattle.alg_terms.specs.Valid.{IsValid}
use Rattle.alg_lines.specs.declared.answer.Answer.{Answer}
use Rattle.alg_lines.specs.declared.answer.GoalCheck.{GoalCheck}
use Rattle.alg_check.specs.Reports.{IsReport}
use Rattle.alg_prover.specs.Answers.{AreAnswers, IsAnswer}
use Rattle.alg_cli.specs.Checked.{AreReports}

-- a proof is accepted; each other answer by ring and by field is right, and by nsatz it is not checked
abbrev pub own_report : Method → Answer → GoalCheck
own_report method (Answer.Proved conditions) = GoalCheck.OkProved
own_report method (Answer.Certified constants cert) = GoalCheck.OkProved
own_report (ByNsatz uses power limit) answer = GoalCheck.Unchecked
own_report method answer = GoalCheck.OkOther

-- this is the report on the answer to each goal of a valid file
abbrev pub AnswersAreAccepted : Type 0
AnswersAreAccepted =
    (file : File) (i : ℕ) (answer : Answer) → IsValid file → i < length file.goals →
    IsAnswer file (goal_at file i) answer →
    IsReport file (goal_at file i) (Some answer) (own_report (goal_at file i).method answer)

-- the reports on the answers to some goals
abbrev pub own_reports : List Goal → List Answer → List GoalCheck
own_reports [] answers = []
own_reports (goal ∷ goals) [] = []
own_reports (goal ∷ goals) (answer ∷ answers) = own_report goal.method answer ∷ own_reports goals answers

-- the text of a file with the answers to its goals reads as the file with these answers, and the reports on them are so
pub record IsAccepted (file : File) (answers : List Answer) : Type 0 where
  pub reads : IsAnnotatedReadingOf (text_of file (map Some answers))
      (Ok (record { file = file; answers = map Some answers }))
  pub reports : AreReports file (map Some answers) (own_reports file.goals answers)

-- this holds of each valid file, where no statement of the text has more parentheses open at once than may be
abbrev pub CheckAccepts : Type 0
CheckAccepts =
    (file : File) (answers : List Answer) → IsValid file → AreAnswers file answers →
    AnswersOpenFew file (map Some answers) → IsAccepted file answers
