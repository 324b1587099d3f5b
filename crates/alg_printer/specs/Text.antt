-- The canonical text of a file with its answers.
use Rattle.std.specs.Prelude.{ℕ, ◌<◌, ◌≤◌, ◌+◌, List, length, ◌++◌, Option, None, slice_index_or}
use Rattle.std.specs.List.{flat_map}
use Rattle.alg_lines.specs.declared.answer.Answer.{Answer}
use Rattle.alg_terms.specs.declared.file.File.{File}
use Rattle.alg_terms.specs.declared.file.Statement.{Statement}
use Rattle.alg_terms.specs.declared.file.Statement.TheVariants as statement
use Rattle.alg_terms.specs.Members.{sort_at, hom_at, hyp_at, goal_at}
use Rattle.alg_printer.specs.Answers.{optional_text}
use Rattle.alg_printer.specs.Statements.{sort_text, hom_text, vars_text, hyp_text, goal_text}

-- the answer to goal number i, if there is one
abbrev pub answer_at : List (Option Answer) → ℕ → Option Answer
answer_at answers i = slice_index_or answers i None

-- goal number i with its answer below it
abbrev pub answered_text : File → List (Option Answer) → ℕ → List ℕ
answered_text file answers i =
    goal_text file (goal_at file i) ++ optional_text file (goal_at file i) (answer_at answers i)

-- a statement
abbrev pub statement_text : File → List (Option Answer) → Statement → List ℕ
statement_text file answers (statement.Sort s) = sort_text (sort_at file s)
statement_text file answers (statement.Hom f) = hom_text file (hom_at file f)
statement_text file answers (statement.Vars first count) = vars_text file first count
statement_text file answers (statement.Hyp h) = hyp_text file (hyp_at file h)
statement_text file answers (statement.Goal i) = answered_text file answers i

-- the statements of the file in their order
abbrev pub text_of : File → List (Option Answer) → List ℕ
text_of file answers = flat_map (statement_text file answers) file.order

-- what a statement declares is of the file
abbrev pub IsStatementOf : File → Statement → Type 0
IsStatementOf file (statement.Sort s) = s < length file.sorts
IsStatementOf file (statement.Hom f) = f < length file.homs
IsStatementOf file (statement.Vars first count) = (1 ≤ count) × (first + count ≤ length file.vars)
IsStatementOf file (statement.Hyp h) = h < length file.hyps
IsStatementOf file (statement.Goal i) = i < length file.goals
