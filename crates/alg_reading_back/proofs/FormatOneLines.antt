-- The lines of the text in format 1 are whole, and few parentheses are open in them, as in those of format 2.
use Rattle.std.proofs.Common.{ℕ, List, [], ◌∷◌, ◌++◌, map, Option, Some, None, ℤ, pos}
use Rattle.std.specs.List.{AllByRecursion}
use Rattle.std.proofs.lemmas.List.Elements.{recursion_from_All}
use Rattle.alg_lines.specs.declared.answer.Answer.{Answer}
use Rattle.alg_lines.specs.declared.answer.Answer.TheVariants as answer
use Rattle.alg_lines.specs.declared.cert.GoalStep.{GoalStep}
use Rattle.alg_lines.specs.declared.cert.Line.{Line}
use Rattle.alg_reify.specs.Table.{goal_atoms}
use Rattle.alg_terms.specs.declared.file.File.{File}
use Rattle.alg_terms.specs.declared.file.Statement.{Statement}
use Rattle.alg_terms.specs.declared.file.Statement.TheVariants as statement
use Rattle.alg_terms.specs.declared.goals.Goal.{Goal}
use Rattle.alg_terms.specs.declared.term.Atom.{Atom}
use Rattle.alg_terms.specs.Members.{goal_at}
use Rattle.alg_tokens.specs.Pieces.{Piece}
use Rattle.alg_reader.specs.declared.format.Format.{Format}
use Rattle.alg_reader.specs.declared.format.Format.TheVariants as formats
use Rattle.alg_reader.proofs.Found.{all_append, all_split}
use Rattle.alg_printer.specs.Text.{answer_at, IsStatementOf}
use Rattle.alg_printer.proofs.Declared.{statements_are_of}
use Rattle.alg_reading_back.specs.ReadingAnswers.{CanBePrinted}
use Rattle.alg_reading_back.proofs.AnsweredLines.{lines_are, statement_whole}
use Rattle.alg_reading_back.proofs.FewPieces.{OpenFew, few_at, few_from, few_left, Closes, closes_both}
use Rattle.alg_reading_back.proofs.LineTokens.{IsLine, IsWhole}
use Rattle.alg_reading_back.proofs.WrittenAnswers.{written_combined, if_pieces, power_front, cofactor_pieces, written_constant, written_line, written_step}
use Rattle.alg_reading_back.proofs.WrittenLines.{WrittenLine, indented, written_answer, part_lines, answer_lines, statement_lines, file_lines}
use Rattle.alg_reading_back.proofs.WrittenStatements.{dot}
use Rattle.alg_reading_back.proofs.WrittenTerms.{space, numeral}
use Rattle.alg_reading_back.proofs.FormatOneParts.{none_open, closes_cofactor, few_before, closes_combined, line_one, step_one}

module _ (file : File) (atoms : List Atom) where
  -- a statement behind two spaces, by what stands before its dot
  few_dot : (pieces : List Piece) → Closes pieces → OpenFew 0 pieces → OpenFew 0 (space ∷ space ∷ (pieces ++ dot))
  few_dot pieces closes few = few_before file atoms pieces dot closes few (none_open, tt)

  line_is : (l : Line) → IsWhole (indented (written_line file formats.One atoms l)) →
      IsLine (indented (written_line file formats.Two atoms l)) →
      IsLine (indented (written_line file formats.One atoms l))
  line_is l whole two =
      let one = written_line file formats.One atoms l in
      let few = few_left 0 (written_line file formats.Two atoms l).pieces dot (few_from 0 0 (indented
      (written_line file formats.Two atoms l)).pieces (two.few 0)) in
      let here = few_dot one.pieces
      (closes_both (cofactor_pieces file formats.One atoms l.m)
      (written_combined file formats.One atoms (pos l.i) l.b l.n l.j l.d).pieces
      (closes_cofactor file atoms formats.One l.m)
      (closes_combined file atoms formats.One (pos l.i) l.b l.n l.j l.d)) (line_one file atoms l few) in
      record { whole = whole; few = λ at. few_at 0 at (indented one).pieces here }

  step_is : (s : GoalStep) → IsWhole (indented (written_step file formats.One atoms s)) →
      IsLine (indented (written_step file formats.Two atoms s)) →
      IsLine (indented (written_step file formats.One atoms s))
  step_is s whole two =
      let one = written_step file formats.One atoms s in
      let few = few_left 0 (written_step file formats.Two atoms s).pieces dot
      (few_from 0 0 (indented (written_step file formats.Two atoms s)).pieces (two.few 0)) in
      let here = few_dot one.pieces (closes_combined file atoms formats.One s.a s.b s.n s.j s.d)
      (step_one file atoms s few) in
      record { whole = whole; few = λ at. few_at 0 at (indented one).pieces here }

  lines_one : (ls : List Line) → AllByRecursion IsWhole (map (λ l. indented
      (written_line file formats.One atoms l)) ls) →
      AllByRecursion IsLine (map (λ l. indented (written_line file formats.Two atoms l)) ls) →
      AllByRecursion IsLine (map (λ l. indented (written_line file formats.One atoms l)) ls)
  lines_one [] whole two = tt
  lines_one (l ∷ ls) whole two = (line_is l whole.0 two.0, lines_one ls whole.1 two.1)

  steps_one : (ss : List GoalStep) →
      AllByRecursion IsWhole (map (λ s. indented (written_step file formats.One atoms s)) ss) →
      AllByRecursion IsLine (map (λ s. indented (written_step file formats.Two atoms s)) ss) →
      AllByRecursion IsLine (map (λ s. indented (written_step file formats.One atoms s)) ss)
  steps_one [] whole two = tt
  steps_one (s ∷ ss) whole two = (step_is s whole.0 two.0, steps_one ss whole.1 two.1)

  -- the first line of a certificate has the same parentheses in both formats: none up to its power
  head_one : (constants : List ℤ) (power : ℕ) →
      OpenFew 0 (space ∷ space ∷ ((power_front formats.Two ++ (numeral power ∷ if_pieces written_constant constants))
      ++ dot)) →
      OpenFew 0 (space ∷ space ∷ ((power_front formats.One ++ (numeral power ∷ if_pieces written_constant constants))
      ++ dot))
  head_one constants power few = (none_open, (none_open, few.1.1.1.1))

  -- the lines of an answer
  answer_one : (said : Answer) →
      AllByRecursion IsWhole (indented (written_answer file formats.One atoms said)
      ∷ part_lines file formats.One atoms said) →
      AllByRecursion IsLine (indented (written_answer file formats.Two atoms said)
      ∷ part_lines file formats.Two atoms said) →
      AllByRecursion IsLine (indented (written_answer file formats.One atoms said)
      ∷ part_lines file formats.One atoms said)
  answer_one (answer.Certified constants cert) whole two =
      let one = indented (written_answer file formats.One atoms (answer.Certified constants cert)) in
      let lines : Format → List WrittenLine = λ format. map (λ l. indented
      (written_line file format atoms l)) cert.lines in
      let steps : Format → List WrittenLine = λ format. map (λ s. indented
      (written_step file format atoms s)) cert.steps in
      let (whole_lines, whole_steps) = all_split IsWhole (lines formats.One) (steps formats.One) whole.1 in
      let (two_lines, two_steps) = all_split IsLine (lines formats.Two) (steps formats.Two) two.1 in (
        record {
          whole = whole.0;
          few = λ at. few_at 0 at one.pieces (head_one constants cert.power (few_from 0 0
              (indented (written_answer file formats.Two atoms (answer.Certified constants cert))).pieces
              (two.0.few 0)));
        },
        all_append IsLine (lines formats.One) (steps formats.One) (lines_one cert.lines whole_lines two_lines)
            (steps_one cert.steps whole_steps two_steps),
      )
  answer_one (answer.Proved conditions) whole two = (record { whole = whole.0; few = two.0.few }, tt)
  answer_one (answer.No m left right) whole two = (record { whole = whole.0; few = two.0.few }, tt)
  answer_one (answer.ZeroDenominator denominator) whole two = (record { whole = whole.0; few = two.0.few }, tt)
  answer_one (answer.NoneUpTo power) whole two = (record { whole = whole.0; few = two.0.few }, tt)
  answer_one (answer.GaveUp limit) whole two = (record { whole = whole.0; few = two.0.few }, tt)
  answer_one answer.Atoms whole two = (record { whole = whole.0; few = two.0.few }, tt)
  answer_one answer.Range whole two = (record { whole = whole.0; few = two.0.few }, tt)
  answer_one answer.Degree whole two = (record { whole = whole.0; few = two.0.few }, tt)

-- the lines of an answer to a goal
optional_one : (file : File) (goal : Goal) (said : Option Answer) →
    AllByRecursion IsWhole (answer_lines file formats.One goal said) →
    AllByRecursion IsLine (answer_lines file formats.Two goal said) →
    AllByRecursion IsLine (answer_lines file formats.One goal said)
optional_one file goal None whole two = tt
optional_one file goal (Some said) whole two = answer_one file (goal_atoms file goal) said whole two

-- the lines of a statement, and of all statements
statement_one : (file : File) (answers : List (Option Answer)) (s : Statement) →
    AllByRecursion IsWhole (statement_lines file formats.One answers s) →
    AllByRecursion IsLine (statement_lines file formats.Two answers s) →
    AllByRecursion IsLine (statement_lines file formats.One answers s)
statement_one file answers (statement.Sort k) whole two = two
statement_one file answers (statement.Hom f) whole two = two
statement_one file answers (statement.Vars first count) whole two = two
statement_one file answers (statement.Hyp h) whole two = two
statement_one file answers (statement.Goal i) whole two =
    (two.0, optional_one file (goal_at file i) (answer_at answers i) whole.1 two.1)

order_one : (file : File) (answers : List (Option Answer)) → CanBePrinted file answers → (order : List Statement) →
    AllByRecursion (IsStatementOf file) order → AllByRecursion IsLine (file_lines file formats.Two answers order) →
    AllByRecursion IsLine (file_lines file formats.One answers order)
order_one file answers can [] are two = tt
order_one file answers can (s ∷ order) are two =
    let (here, later) = all_split IsLine (statement_lines file formats.Two answers s)
    (file_lines file formats.Two answers order) two in
    all_append IsLine (statement_lines file formats.One answers s) (file_lines file formats.One answers order)
    (statement_one file answers s (statement_whole file answers can.valid can.printable formats.One s are.0) here)
    (order_one file answers can order are.1 later)

pub lines_are_one : (file : File) (answers : List (Option Answer)) → CanBePrinted file answers →
    AllByRecursion IsLine (file_lines file formats.One answers file.order)
lines_are_one file answers can =
    order_one file answers can file.order
    (recursion_from_All (IsStatementOf file) file.order (statements_are_of file can.valid)) (lines_are file answers can)
