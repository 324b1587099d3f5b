-- The laws that the canonical text of a file with answers reads back as the file with its answers, and that its text in
-- format 1 does so too.
use Rattle.std.specs.Prelude.{◌≡◌, ◌≤◌, ℕ, List, ◌∷◌, ◌++◌, All, Option, IfSome, Ok}
use Rattle.alg_annotated.specs.Reading.{IsAnnotatedReadingOf}
use Rattle.alg_lines.specs.declared.answer.Answer.{Answer}
use Rattle.alg_lines.specs.AnswerTerms.{terms_of}
use Rattle.alg_printer.specs.FormatOne.{text_one_of}
use Rattle.alg_printer.specs.Printable.{ArePrintable}
use Rattle.alg_printer.specs.Text.{answer_at, statement_text, text_of}
use Rattle.alg_reading_back.specs.ReadingBack.{most_open}
use Rattle.alg_terms.specs.declared.file.File.{File}
use Rattle.alg_terms.specs.declared.file.Statement.{Statement}
use Rattle.alg_terms.specs.declared.file.Statement.TheVariants as statement
use Rattle.alg_terms.specs.Limits.{MAX_OPEN}
use Rattle.alg_terms.specs.Occurring.{UseOnly}
use Rattle.alg_terms.specs.Order.{declared_by_all}
use Rattle.alg_terms.specs.Valid.{IsValid}

-- ---- what is asked of the answers

-- no statement of the text has more parentheses open at once than may be
abbrev pub AnswersOpenFew : File → List (Option Answer) → Type 0
AnswersOpenFew file answers = All (λ s. most_open 0 (statement_text file answers s) ≤ MAX_OPEN) file.order

-- the terms of each answer use only members of statements before its goal, as the goal does
abbrev pub AreAnswersInOrder : File → List (Option Answer) → Type 0
AreAnswersInOrder file answers = (before after : List Statement) (i : ℕ) →
    file.order ≡ before ++ (statement.Goal i ∷ after) →
    let declared = declared_by_all before in
    IfSome (answer_at answers i) (λ answer. UseOnly declared.vars declared.homs (terms_of answer))

-- the file is valid, and the answers can be printed, each below its goal
pub record CanBePrinted (file : File) (answers : List (Option Answer)) : Type 0 where
  pub valid : IsValid file
  pub printable : ArePrintable file answers
  pub in_order : AreAnswersInOrder file answers
  pub few : AnswersOpenFew file answers

-- ---- the laws

-- the text of the file with its answers reads as the file with its answers
abbrev pub ReadsBackWithAnswers : Type 0
ReadsBackWithAnswers = (file : File) (answers : List (Option Answer)) → CanBePrinted file answers →
    IsAnnotatedReadingOf (text_of file answers) (Ok (record { file = file; answers = answers }))

-- so does their text in format 1
abbrev pub Migrates : Type 0
Migrates = (file : File) (answers : List (Option Answer)) → CanBePrinted file answers →
    IsAnnotatedReadingOf (text_one_of file answers) (Ok (record { file = file; answers = answers }))
