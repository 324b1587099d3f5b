-- Each line of the canonical text of a file with its answers is whole.
use Rattle.std.proofs.Common.{◌≡◌, ◌≤◌, ℕ, ◌+◌, List, [], ◌∷◌, ◌++◌, map, Option, Some, None, refl, sym, ap, ◌∙◌, subst, arith}
use Rattle.std.specs.List.{AllByRecursion}
use Rattle.std.specs.Option.{IfSome, option_or}
use Rattle.std.proofs.lemmas.List.Elements.{recursion_from_All}
use Rattle.alg_lines.specs.declared.answer.Answer.{Answer}
use Rattle.alg_lines.specs.declared.answer.Answer.TheVariants as answer
use Rattle.alg_lines.specs.declared.cert.GoalStep.{GoalStep}
use Rattle.alg_lines.specs.declared.cert.Line.{Line}
use Rattle.alg_reify.specs.Table.{goal_atoms}
use Rattle.alg_terms.specs.AnswerRules.{IsAnswerTerm}
use Rattle.alg_terms.specs.declared.file.File.{File}
use Rattle.alg_terms.specs.declared.file.Statement.{Statement}
use Rattle.alg_terms.specs.declared.file.Statement.TheVariants as statement
use Rattle.alg_terms.specs.declared.goals.Goal.{Goal}
use Rattle.alg_terms.specs.declared.term.Atom.{Atom}
use Rattle.alg_terms.specs.declared.term.Term.{Term}
use Rattle.alg_terms.specs.Limits.{MAX_OPEN}
use Rattle.alg_terms.specs.Members.{goal_at}
use Rattle.alg_terms.specs.Valid.{IsValid}
use Rattle.alg_tokens.specs.Laws.{width, tokens_of}
use Rattle.alg_tokens.proofs.Neighbours.{spell, spell_append}
use Rattle.alg_reader.specs.declared.format.Format.{Format}
use Rattle.alg_reader.specs.declared.format.Format.TheVariants as formats
use Rattle.alg_reader.specs.declared.raw.RawAnswer.TheVariants as answers
use Rattle.alg_reader.specs.declared.raw.RawKind.TheVariants as raws
use Rattle.alg_reader.specs.TooDeep.{kept, first_of_terms}
use Rattle.alg_reader.proofs.Found.{all_append}
use Rattle.alg_printer.specs.Printable.{ArePrintable, HasParts, IsLineOver, IsPrintable, IsStepOver}
use Rattle.alg_printer.specs.Text.{answer_at, statement_text, IsStatementOf}
use Rattle.alg_printer.proofs.Declared.{statements_are_of}
use Rattle.alg_printer.proofs.Leaves.{AreAtoms}
use Rattle.alg_printer.proofs.Tables.{goal_has}
use Rattle.alg_reading_back.specs.ReadingAnswers.{CanBePrinted}
use Rattle.alg_reading_back.specs.ReadingBack.{most_open}
use Rattle.alg_reading_back.proofs.AnswerEnds.{indented_ends, answer_ends, line_ends, step_ends}
use Rattle.alg_reading_back.proofs.FewOpen.{open_first, open_later, few_tokens}
use Rattle.alg_reading_back.proofs.FileTokens.{statement_ends}
use Rattle.alg_reading_back.proofs.LineTokens.{IsLine, IsWhole}
use Rattle.alg_reading_back.proofs.Readings.{goes_on}
use Rattle.alg_reading_back.proofs.ShallowTerms.{term_kept, term_not_deep}
use Rattle.alg_reading_back.proofs.SpelledLines.{statement_spelled}
use Rattle.alg_reading_back.proofs.SpelledStatements.{line_pieces}
use Rattle.alg_reading_back.proofs.StatementEnds.{has_names, statement_pieces_end}
use Rattle.alg_reading_back.proofs.StatementsRead.{BeginsAt, IsKept, statement_begins, statement_kept}
use Rattle.alg_reading_back.proofs.TermEnds.{HasNames}
use Rattle.alg_reading_back.proofs.WrittenAnswers.{answer_pieces, answer_raw, written_condition, written_line, written_step}
use Rattle.alg_reading_back.proofs.WrittenLines.{WrittenLine, indented, plain_line, lines_pieces, written_answer, part_lines, answer_lines, statement_lines, file_lines}
use Rattle.alg_reading_back.proofs.WrittenLists.{comma, separator_pieces, all_raw}
use Rattle.alg_reading_back.proofs.WrittenStatements.{written_statement}
use Rattle.alg_reading_back.proofs.WrittenTerms.{written, space}

-- ---- what is kept of answers

-- the raw conditions of an answer: all of each is kept, and none is too deep
conditions_kept : (file : File) (goal : Goal) (ts : List Term) → AllByRecursion (IsAnswerTerm file goal) ts → (at : ℕ) →
    let rs = all_raw (written_condition file) comma at ts in
    (map kept rs ≡ rs) × (first_of_terms rs ≡ None)
conditions_kept file goal [] all at = (refl, refl)
conditions_kept file goal (t ∷ ts) all at =
    let r = (written file t).raw at in
    let low = all.0.term.depth in
    let there = at + width (written_condition file t).pieces + width (separator_pieces comma) in
    let rs = all_raw (written_condition file) comma there ts in
    let (whole, shallow) = conditions_kept file goal ts all.1 there in (
      ap (λ x. x ∷ map kept rs) (term_kept file t low at) ∙ ap (λ xs. r ∷ xs) whole,
      ap (λ o. option_or o (first_of_terms rs)) (term_not_deep file t low at) ∙ shallow,
    )

answer_kept : (file : File) (goal : Goal) (format : Format) (atoms : List Atom) (said : Answer) →
    HasParts file goal said → (at : ℕ) → IsKept (raws.Answer (answer_raw file format atoms said at))
answer_kept file goal format atoms (answer.Proved conditions) parts at =
    let (whole, shallow) =
    conditions_kept file goal conditions (recursion_from_All (IsAnswerTerm file goal) conditions parts)
    (at + 6 + 1 + 2 + 1) in
    (ap (λ rs. raws.Answer (answers.Proved rs)) whole, shallow)
answer_kept file goal format atoms (answer.ZeroDenominator t) parts at =
    let low = parts.term.depth in
    let there = at + 4 + 1 + 11 + 1 in
    (ap (λ r. raws.Answer (answers.ZeroDenominator r)) (term_kept file t low there), term_not_deep file t low there)
answer_kept file goal format atoms (answer.Certified constants cert) parts at = (refl, refl)
answer_kept file goal format atoms (answer.No m left right) parts at = (refl, refl)
answer_kept file goal format atoms (answer.NoneUpTo power) parts at = (refl, refl)
answer_kept file goal format atoms (answer.GaveUp limit) parts at = (refl, refl)
answer_kept file goal format atoms answer.Atoms parts at = (refl, refl)
answer_kept file goal format atoms answer.Range parts at = (refl, refl)
answer_kept file goal format atoms answer.Degree parts at = (refl, refl)

-- ---- lines

plain_whole : (file : File) → IsValid file → (s : Statement) → IsStatementOf file s →
    IsWhole (plain_line (written_statement file s))
plain_whole file valid s is = record {
  stands = statement_pieces_end file s valid is;
  dotted = statement_ends file s;
  begins = statement_begins file s;
  kept = statement_kept file valid s is;
  goes_on = goes_on file s;
}

module _ (file : File) (names : HasNames file) (goal : Goal) (are : AreAtoms file (goal_atoms file goal))
    (format : Format) where
  abbrev atoms : List Atom
  atoms = goal_atoms file goal

  line_whole : (l : Line) → IsLineOver atoms l → IsWhole (indented (written_line file format atoms l))
  line_whole l is = record {
    stands = indented_ends (written_line file format atoms l) (line_ends file names atoms are format l is);
    dotted = (space ∷ space ∷ (written_line file format atoms l).pieces, refl);
    begins = λ at. (_, _, refl, refl);
    kept = λ at. (refl, refl);
    goes_on = λ at e. absurd (cc);
  }

  step_whole : (s : GoalStep) → IsStepOver atoms s → IsWhole (indented (written_step file format atoms s))
  step_whole s is = record {
    stands = indented_ends (written_step file format atoms s) (step_ends file names atoms are format s is);
    dotted = (space ∷ space ∷ (written_step file format atoms s).pieces, refl);
    begins = λ at. (_, _, refl, refl);
    kept = λ at. (refl, refl);
    goes_on = λ at e. absurd (cc);
  }

  answer_begins : (said : Answer) (at : ℕ) →
      BeginsAt (at + 1 + 1) (tokens_of at (indented (written_answer file format atoms said)).pieces)
  answer_begins (answer.Proved conditions) at = (_, _, refl, refl)
  answer_begins (answer.Certified constants cert) at = (_, _, refl, refl)
  answer_begins (answer.No m left right) at = (_, _, refl, refl)
  answer_begins (answer.ZeroDenominator denominator) at = (_, _, refl, refl)
  answer_begins (answer.NoneUpTo power) at = (_, _, refl, refl)
  answer_begins (answer.GaveUp limit) at = (_, _, refl, refl)
  answer_begins answer.Atoms at = (_, _, refl, refl)
  answer_begins answer.Range at = (_, _, refl, refl)
  answer_begins answer.Degree at = (_, _, refl, refl)

  head_whole : (said : Answer) → HasParts file goal said → IsWhole (indented (written_answer file format atoms said))
  head_whole said parts = record {
    stands = indented_ends (written_answer file format atoms said)
        (answer_ends file format goal names are said parts);
    dotted = (space ∷ space ∷ answer_pieces file format atoms said, refl);
    begins = answer_begins said;
    kept = λ at. answer_kept file goal format atoms said parts (at + 1 + 1);
    goes_on = λ at e. absurd (cc);
  }

  -- ---- of lists

  map_whole : {X : Type 0} (write : X → WrittenLine) (P : X → Type 0) → ((x : X) → P x → IsWhole (write x)) →
      (xs : List X) → AllByRecursion P xs → AllByRecursion IsWhole (map write xs)
  map_whole write P whole [] all = tt
  map_whole write P whole (x ∷ xs) all = (whole x all.0, map_whole write P whole xs all.1)

  parts_whole : (said : Answer) → HasParts file goal said → AllByRecursion IsWhole (part_lines file format atoms said)
  parts_whole (answer.Certified constants cert) parts =
      all_append IsWhole _ _
      (map_whole (λ l. indented (written_line file format atoms l)) (IsLineOver atoms) line_whole cert.lines
      (recursion_from_All (IsLineOver atoms) cert.lines parts.1.lines))
      (map_whole (λ s. indented (written_step file format atoms s)) (IsStepOver atoms) step_whole cert.steps
      (recursion_from_All (IsStepOver atoms) cert.steps parts.1.steps))
  parts_whole (answer.Proved conditions) parts = tt
  parts_whole (answer.No m left right) parts = tt
  parts_whole (answer.ZeroDenominator denominator) parts = tt
  parts_whole (answer.NoneUpTo power) parts = tt
  parts_whole (answer.GaveUp limit) parts = tt
  parts_whole answer.Atoms parts = tt
  parts_whole answer.Range parts = tt
  parts_whole answer.Degree parts = tt

  answer_whole : (said : Option Answer) → IfSome said (IsPrintable file goal) →
      AllByRecursion IsWhole (answer_lines file format goal said)
  answer_whole None is = tt
  answer_whole (Some said) is = (head_whole said is.parts, parts_whole said is.parts)

-- the lines of a statement of the file
pub statement_whole : (file : File) (answers : List (Option Answer)) → IsValid file → ArePrintable file answers →
    (format : Format) (s : Statement) → IsStatementOf file s →
    AllByRecursion IsWhole (statement_lines file format answers s)
statement_whole file answers valid printable format (statement.Sort k) is =
    (plain_whole file valid (statement.Sort k) is, tt)
statement_whole file answers valid printable format (statement.Hom f) is =
    (plain_whole file valid (statement.Hom f) is, tt)
statement_whole file answers valid printable format (statement.Vars first count) is =
    (plain_whole file valid (statement.Vars first count) is, tt)
statement_whole file answers valid printable format (statement.Hyp h) is =
    (plain_whole file valid (statement.Hyp h) is, tt)
statement_whole file answers valid printable format (statement.Goal i) is = (
  plain_whole file valid (statement.Goal i) is,
  answer_whole file (has_names file valid) (goal_at file i) (goal_has file i valid is) format (answer_at answers i)
      (printable.each i is),
)

-- ---- parentheses

-- few are open in each line where few are open in all of them together
few_lines : (lines : List WrittenLine) → AllByRecursion IsWhole lines →
    most_open 0 (spell (lines_pieces lines)) ≤ MAX_OPEN → AllByRecursion IsLine lines
few_lines [] all few = tt
few_lines (l ∷ lines) all few =
    let here = spell (line_pieces l.pieces) in
    let later = spell (lines_pieces lines) in
    let whole : most_open 0 (here ++ later) ≤ MAX_OPEN =
    subst (λ bs. most_open 0 bs ≤ MAX_OPEN) (spell_append (line_pieces l.pieces) (lines_pieces lines)) few in (
      record {
        whole = all.0;
        few = few_tokens l.pieces all.0.stands (omega (arith, whole, open_first 0 here later));
      },
      few_lines lines all.1 (omega (arith, whole, open_later 0 here later)),
    )

-- the lines of a file in format 2
lines_of_order : (file : File) (answers : List (Option Answer)) → IsValid file → ArePrintable file answers →
    (order : List Statement) → AllByRecursion (IsStatementOf file) order →
    AllByRecursion (λ s. most_open 0 (statement_text file answers s) ≤ MAX_OPEN) order →
    AllByRecursion IsLine (file_lines file formats.Two answers order)
lines_of_order file answers valid printable [] are few = tt
lines_of_order file answers valid printable (s ∷ order) are few =
    let here = statement_lines file formats.Two answers s in
    let spelled = statement_spelled formats.Two file answers s are.0 in
    all_append IsLine here (file_lines file formats.Two answers order)
    (few_lines here (statement_whole file answers valid printable formats.Two s are.0)
    (subst (λ bs. most_open 0 bs ≤ MAX_OPEN) (sym spelled) few.0))
    (lines_of_order file answers valid printable order are.1 few.1)

pub lines_are : (file : File) (answers : List (Option Answer)) → CanBePrinted file answers →
    AllByRecursion IsLine (file_lines file formats.Two answers file.order)
lines_are file answers can =
    lines_of_order file answers can.valid can.printable file.order
    (recursion_from_All (IsStatementOf file) file.order (statements_are_of file can.valid))
    (recursion_from_All (λ s. most_open 0 (statement_text file answers s) ≤ MAX_OPEN) file.order can.few)
