-- What holds of all annotated files that are read.
use Rattle.std.specs.Prelude.{◌≡◌, ◌<◌, ◌+◌, ℕ, List, length, All, Option, None, Some, IfSome, slice_index_or, sum_by}
use Rattle.alg_lines.specs.declared.answer.Answer.{Answer}
use Rattle.alg_lines.specs.declared.answer.Answer.TheVariants as answer
use Rattle.alg_terms.specs.declared.file.File.{File}
use Rattle.alg_terms.specs.declared.goals.Goal.{Goal}
use Rattle.alg_terms.specs.AnswerRules.{IsAnswerTerm}
use Rattle.alg_terms.specs.Members.{goal_at, uses_of}

-- the terms of an answer keep the rules of terms in answers to the goal
abbrev pub HasTerms : File → Goal → Answer → Type 0
HasTerms file goal (answer.Proved conditions) = All (IsAnswerTerm file goal) conditions
HasTerms file goal (answer.ZeroDenominator denominator) = IsAnswerTerm file goal denominator
HasTerms file goal said = Unit {0}

-- each goal has an answer or none, and the terms of its answer keep the rules
pub record AreAnswersTo (file : File) (answers : List (Option Answer)) : Type 0 where
  pub count : length answers ≡ length file.goals
  pub terms : (i : ℕ) → i < length file.goals →
      IfSome (slice_index_or answers i None) (HasTerms file (goal_at file i))

-- how many lines and steps an answer has
abbrev pub lines_in : Option Answer → ℕ
lines_in (Some (answer.Certified constants cert)) = length cert.lines + length cert.steps
lines_in said = 0

-- how many uses all goals have, and lines and steps all answers
abbrev pub size_of : File → List (Option Answer) → ℕ
size_of file answers = sum_by (λ goal. length (uses_of goal.method)) file.goals + sum_by lines_in answers
