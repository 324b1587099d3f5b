-- The canonical text of a file with its answers reads as the file with its answers, where its lines are whole.
use Rattle.std.proofs.Common.{◌≡◌, inl, ℕ, ◌+◌, List, [], ◌∷◌, ◌++◌, take, Option, Ok, refl, sym, ap, ◌∙◌, subst, append_assoc, append-nil}
use Rattle.std.specs.List.{AllByRecursion}
use Rattle.std.specs.Str.{IsUtf8}
use Rattle.alg_lines.specs.declared.answer.Answer.{Answer}
use Rattle.alg_terms.specs.declared.file.File.{File}
use Rattle.alg_terms.specs.declared.file.Statement.{Statement}
use Rattle.alg_terms.specs.declared.file.Statement.TheVariants as statement
use Rattle.alg_terms.specs.Order.{numbers_from}
use Rattle.alg_tokens.specs.Laws.{width, CutFromAnywhere}
use Rattle.alg_tokens.proofs.Neighbours.{spell}
use Rattle.alg_reader.specs.declared.format.Format.{Format}
use Rattle.alg_reader.specs.declared.place.Place.{Place}
use Rattle.alg_reader.specs.declared.place.Place.TheVariants as places
use Rattle.alg_typing.specs.Reading.{no_statements}
use Rattle.alg_typing.specs.Ways.{Reads}
use Rattle.alg_annotated.specs.Reading.{SoFar, annotated_of, annotated_way, nothing_yet, IsAnnotatedReadingOf}
use Rattle.alg_reading_back.specs.ReadingAnswers.{CanBePrinted}
use Rattle.alg_reading_back.proofs.ClosedFronts.{IsClosedBy, nothing_closed, closed_next}
use Rattle.alg_reading_back.proofs.FilesAnswered.{so_far, IsThere, declaration_taken, goal_taken}
use Rattle.alg_reading_back.proofs.FilesBack.{all_of, take_no, whole_front, empty_front}
use Rattle.alg_reading_back.proofs.FileTokens.{statement_of}
use Rattle.alg_reading_back.proofs.FrontTables.{AreHypsNamed, nothing_named, named_next}
use Rattle.alg_reading_back.proofs.Fronts.{goals_in}
use Rattle.alg_reading_back.proofs.LinesRead.{AreTaken, taken_append, lines_read}
use Rattle.alg_reading_back.proofs.LineTokens.{IsLine, lines_split, lines_stand, lines_there}
use Rattle.alg_reading_back.proofs.PiecesAt.{PiecesAt, pieces_at_left, pieces_at_right}
use Rattle.alg_reading_back.proofs.SpelledLines.{text_in, lines_spelled}
use Rattle.alg_reading_back.proofs.SpelledStatements.{line_pieces}
use Rattle.alg_reading_back.proofs.Utf8Text.{pieces_utf8}
use Rattle.alg_reading_back.proofs.WrittenLines.{WrittenLine, lines_pieces, statement_lines, file_lines}
use Rattle.alg_reading_back.proofs.WrittenStatements.{written_statement}

module _ (file : File) (answers : List (Option Answer)) (can : CanBePrinted file answers) (format : Format)
    (text : List ℕ) where
  abbrev IsWay : SoFar → ℕ → List WrittenLine → SoFar → Type 0
  IsWay now at lines end = AreTaken (annotated_way text) now at lines end

  abbrev lines_of : Statement → List WrittenLine
  lines_of s = statement_lines file format answers s

  -- the lines of a statement lead to a state behind it
  abbrev Leads : List Statement → Statement → Place → ℕ → Type 0
  Leads before s p at =
      (q : Place) × IsWay (so_far file answers before p) at (lines_of s) (so_far file answers (before ++ s ∷ []) q)

  there : (before after : List Statement) (s : Statement) (at : ℕ) → file.order ≡ before ++ (s ∷ after) →
      IsClosedBy file before → AreHypsNamed file before →
      PiecesAt text at (line_pieces (written_statement file s).pieces) →
      IsThere file answers can format text before after s at
  there before after s at split closed named placed = record {
    split = split;
    is = statement_of file can.valid before after s split;
    closed = closed;
    named = named;
    placed = placed;
  }

  statement_leads : (before after : List Statement) (s : Statement) (at : ℕ) → file.order ≡ before ++ (s ∷ after) →
      IsClosedBy file before → AreHypsNamed file before → (p : Place) →
      PiecesAt text at (lines_pieces (lines_of s)) → Leads before s p at
  statement_leads before after (statement.Sort k) at split closed named p placed =
      declaration_taken file answers can format text before after (statement.Sort k) at
      (there before after (statement.Sort k) at split closed named
      (pieces_at_left text at (line_pieces (written_statement file (statement.Sort k)).pieces) [] placed)) p refl
      refl refl
  statement_leads before after (statement.Hom f) at split closed named p placed =
      declaration_taken file answers can format text before after (statement.Hom f) at
      (there before after (statement.Hom f) at split closed named
      (pieces_at_left text at (line_pieces (written_statement file (statement.Hom f)).pieces) [] placed)) p refl refl
      refl
  statement_leads before after (statement.Vars first count) at split closed named p placed =
      let s = statement.Vars first count in
      declaration_taken file answers can format text before after s at
      (there before after s at split closed named
      (pieces_at_left text at (line_pieces (written_statement file s).pieces) [] placed)) p refl refl refl
  statement_leads before after (statement.Hyp h) at split closed named p placed =
      declaration_taken file answers can format text before after (statement.Hyp h) at
      (there before after (statement.Hyp h) at split closed named
      (pieces_at_left text at (line_pieces (written_statement file (statement.Hyp h)).pieces) [] placed)) p refl refl
      refl
  statement_leads before after (statement.Goal i) at split closed named p placed =
      let s = statement.Goal i in
      goal_taken file answers can format text before after i at
      (there before after s at split closed named
      (pieces_at_left text at (line_pieces (written_statement file s).pieces) _ placed)) p placed

  -- and so do those of all statements from some on
  file_leads : (after before : List Statement) → file.order ≡ before ++ after → IsClosedBy file before →
      AreHypsNamed file before → (p : Place) (at : ℕ) →
      PiecesAt text at (lines_pieces (file_lines file format answers after)) →
      (q : Place) × IsWay (so_far file answers before p) at (file_lines file format answers after)
      (so_far file answers file.order q)
  file_leads [] before split closed named p at placed =
      (p, ap (λ order. so_far file answers order p) (sym (split ∙ append-nil before)))
  file_leads (s ∷ after) before split closed named p at placed =
      let here = lines_of s in
      let rest = file_lines file format answers after in
      let parts = subst (PiecesAt text at) (lines_split here rest) placed in
      let is = statement_of file can.valid before after s split in
      let (q, first) = statement_leads before after s at split closed named p
      (pieces_at_left text at (lines_pieces here) (lines_pieces rest) parts) in
      let (r, later) = file_leads after (before ++ s ∷ []) (split ∙ sym (append_assoc before (s ∷ []) after))
      (closed_next file can.valid before after s split is closed)
      (named_next file can.valid before after s split named) q (at + width (lines_pieces here))
      (pieces_at_right text at (lines_pieces here) (lines_pieces rest) parts) in
      (r, taken_append (annotated_way text) here rest _ _ _ at first later)

-- ---- the whole file

module _ (law : CutFromAnywhere) (file : File) (answers : List (Option Answer)) (can : CanBePrinted file answers)
    (format : Format) (are : AllByRecursion IsLine (file_lines file format answers file.order)) where
  abbrev lines : List WrittenLine
  lines = file_lines file format answers file.order

  abbrev text : List ℕ
  text = text_in format file answers

  same : spell (lines_pieces lines) ≡ text
  same = lines_spelled format file answers can.valid

  -- behind no statement, and behind all of them
  nothing_there : so_far file answers [] places.Start ≡ nothing_yet
  nothing_there =
      ap (λ f. record { file = f; answers = take (goals_in []) answers; place = places.Start }) (empty_front file)
      ∙ ap (λ xs. record { file = no_statements; answers = xs; place = places.Start }) (take_no answers)

  all_answers : take (goals_in file.order) answers ≡ answers
  all_answers =
      all_of answers _ (ap (λ m. m.goals) can.valid.ordered.once_rising
      ∙ ap (numbers_from 0) (sym can.printable.count))

  all_there : (q : Place) → annotated_of (so_far file answers file.order q) ≡ record { file = file; answers = answers }
  all_there q =
      ap (λ f. record { file = f; answers = take (goals_in file.order) answers }) (whole_front file can.valid)
      ∙ ap (λ xs. record { file = file; answers = xs }) all_answers

  pub answered_back : IsAnnotatedReadingOf text (Ok (record { file = file; answers = answers }))
  answered_back =
      let (q, taken) = file_leads file answers can format text file.order [] refl (nothing_closed file)
      (nothing_named file) places.Start 0 (lines_there law text lines are same) in
      let utf8 = subst IsUtf8 same (pieces_utf8 (lines_pieces lines) [] (lines_stand lines are [])) in
      let read = lines_read (annotated_way text) law text lines are same (so_far file answers [] places.Start)
      (so_far file answers file.order q) taken in
      inl (
        utf8,
        subst (λ a. Reads (annotated_way text) text 0 nothing_yet (Ok a)) (all_there q)
            (subst (λ s. Reads (annotated_way text) text 0 s (Ok (annotated_of (so_far file answers file.order q))))
            nothing_there read),
      )
