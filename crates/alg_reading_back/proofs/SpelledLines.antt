-- The lines of a file with its answers spell its text, in both formats.
use Rattle.std.proofs.Common.{◌≡◌, ℕ, List, [], ◌∷◌, ◌++◌, flat_map, refl, ap, sym, ◌∙◌, append-nil, Option}
use Rattle.std.specs.List.{AllByRecursion}
use Rattle.std.proofs.lemmas.List.Elements.{recursion_from_All}
use Rattle.alg_lines.specs.declared.answer.Answer.{Answer}
use Rattle.alg_terms.specs.declared.file.File.{File}
use Rattle.alg_terms.specs.declared.file.Statement.{Statement}
use Rattle.alg_terms.specs.declared.file.Statement.TheVariants as statement
use Rattle.alg_terms.specs.Members.{goal_at}
use Rattle.alg_terms.specs.Valid.{IsValid}
use Rattle.alg_reader.specs.declared.format.Format.{Format}
use Rattle.alg_reader.specs.declared.format.Format.TheVariants as formats
use Rattle.alg_tokens.proofs.Neighbours.{spell, spell_append}
use Rattle.alg_printer.specs.FormatOne.{statement_one_of}
use Rattle.alg_printer.specs.Statements.{goal_text}
use Rattle.alg_printer.specs.Text.{answer_at, statement_text, IsStatementOf}
use Rattle.alg_printer.proofs.Declared.{statements_are_of}
use Rattle.alg_reading_back.specs.ReadingBack.{unanswered}
use Rattle.alg_reading_back.proofs.SpelledStatements.{line_pieces, spelled_statement, spelled_goal}
use Rattle.alg_reading_back.proofs.WrittenLines.{plain_line, lines_pieces, answer_lines, statement_lines, file_lines}
use Rattle.alg_reading_back.proofs.WrittenStatements.{written_goal, written_statement}
use Rattle.alg_reading_back.proofs.SpelledAnswerLines.{lines_append, answer_in, answer_spelled}

-- ---- files

-- the texts of a statement and of a file in a format
abbrev pub statement_in : Format → File → List (Option Answer) → Statement → List ℕ
statement_in formats.One file answers s = statement_one_of file answers s
statement_in formats.Two file answers s = statement_text file answers s

abbrev pub text_in : Format → File → List (Option Answer) → List ℕ
text_in format file answers = flat_map (statement_in format file answers) file.order

module _ (format : Format) (file : File) (answers : List (Option Answer)) where
  -- a statement alone on its line
  alone : (s : Statement) → IsStatementOf file s → statement_lines file format answers s
      ≡ plain_line (written_statement file s) ∷ [] →
      statement_text file (unanswered file) s ≡ statement_in format file answers s →
      spell (lines_pieces (statement_lines file format answers s)) ≡ statement_in format file answers s
  alone s of is same =
      ap (λ ls. spell (lines_pieces ls)) is ∙ ap spell (append-nil (line_pieces (written_statement file s).pieces))
      ∙ spelled_statement file s of ∙ same

  -- the text of a declaration is the same in both formats, whatever the answers are
  declared : (s : Statement) → statement_one_of file answers s ≡ statement_text file (unanswered file) s →
      statement_text file answers s ≡ statement_text file (unanswered file) s → (format : Format) →
      statement_text file (unanswered file) s ≡ statement_in format file answers s
  declared s one two formats.One = sym one
  declared s one two formats.Two = sym two

  answered : (i : ℕ) (format : Format) →
      goal_text file (goal_at file i) ++ answer_in format file (goal_at file i) (answer_at answers i)
      ≡ statement_in format file answers (statement.Goal i)
  answered i formats.One = refl
  answered i formats.Two = refl

  pub statement_spelled : (s : Statement) → IsStatementOf file s →
      spell (lines_pieces (statement_lines file format answers s)) ≡ statement_in format file answers s
  statement_spelled (statement.Sort k) of =
      alone (statement.Sort k) of refl (declared (statement.Sort k) refl refl format)
  statement_spelled (statement.Hom f) of = alone (statement.Hom f) of refl (declared (statement.Hom f) refl refl format)
  statement_spelled (statement.Vars first count) of =
      alone (statement.Vars first count) of refl (declared (statement.Vars first count) refl refl format)
  statement_spelled (statement.Hyp h) of = alone (statement.Hyp h) of refl (declared (statement.Hyp h) refl refl format)
  statement_spelled (statement.Goal i) of =
      let goal = goal_at file i in
      let said = answer_at answers i in
      spell_append (line_pieces (written_goal file goal).pieces) (lines_pieces (answer_lines file format goal said))
      ∙ ap (λ bs. bs ++ spell (lines_pieces (answer_lines file format goal said))) (spelled_goal file goal)
      ∙ ap (λ bs. goal_text file goal ++ bs) (answer_spelled format file goal said) ∙ answered i format

  statements_spelled : (order : List Statement) → AllByRecursion (IsStatementOf file) order →
      spell (lines_pieces (file_lines file format answers order)) ≡ flat_map (statement_in format file answers) order
  statements_spelled [] all = refl
  statements_spelled (s ∷ order) all =
      lines_append (statement_lines file format answers s) (file_lines file format answers order)
      ∙ ap (λ bs. bs ++ spell (lines_pieces (file_lines file format answers order))) (statement_spelled s all.0)
      ∙ ap (λ bs. statement_in format file answers s ++ bs) (statements_spelled order all.1)

  -- the lines of a file spell its text
  pub lines_spelled : IsValid file →
      spell (lines_pieces (file_lines file format answers file.order)) ≡ text_in format file answers
  lines_spelled valid =
      statements_spelled file.order
      (recursion_from_All (IsStatementOf file) file.order (statements_are_of file valid))
