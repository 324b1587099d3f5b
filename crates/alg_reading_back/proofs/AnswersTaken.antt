-- The lines of an answer are taken behind its goal: they have no faults there, and lead to the answer.
use Rattle.std.proofs.Common.{◌≡◌, ◌<◌, inl, ℕ, ◌+◌, List, [], ◌∷◌, ◌++◌, map, length, Option, Some, None, refl, sym, ap, ◌∙◌, subst}
use Rattle.std.specs.List.{AllByRecursion}
use Rattle.std.specs.Option.{IfSome}
use Rattle.std.proofs.lemmas.List.Elements.{recursion_from_All}
use Rattle.alg_lines.specs.declared.answer.Answer.{Answer}
use Rattle.alg_lines.specs.declared.answer.Answer.TheVariants as answer
use Rattle.alg_lines.specs.declared.cert.GoalStep.{GoalStep}
use Rattle.alg_lines.specs.declared.cert.Line.{Line}
use Rattle.alg_lines.specs.AnswerTerms.{terms_of}
use Rattle.alg_reify.specs.Table.{goal_atoms}
use Rattle.alg_terms.specs.declared.file.File.{File}
use Rattle.alg_terms.specs.declared.goals.Goal.{Goal}
use Rattle.alg_terms.specs.declared.term.Atom.{Atom}
use Rattle.alg_terms.specs.Valid.{names_of}
use Rattle.alg_tokens.specs.Laws.{width}
use Rattle.alg_reader.specs.declared.format.Format.{Format}
use Rattle.alg_reader.specs.declared.format.Format.TheVariants as formats
use Rattle.alg_reader.specs.declared.place.Place.{Place}
use Rattle.alg_reader.specs.declared.place.Place.TheVariants as places
use Rattle.alg_reader.specs.declared.raw.RawKind.TheVariants as raws
use Rattle.alg_typing.proofs.FreshNames.{AreDistinct}
use Rattle.alg_typing.proofs.Growing.{Grows}
use Rattle.alg_annotated.specs.Places.{lines_of, place_behind_answer}
use Rattle.alg_annotated.specs.Reading.{SoFar, with_statement, annotated_way}
use Rattle.alg_annotated.specs.Resolved.{answer_of}
use Rattle.alg_annotated.specs.Rules.{last_goal, answer_faults}
use Rattle.alg_annotated.proofs.Lasts.{with_last-append}
use Rattle.alg_printer.specs.Printable.{IsLineOver, IsPrintable, IsStepOver}
use Rattle.alg_printer.proofs.Leaves.{AreAtoms}
use Rattle.alg_reading_back.proofs.AnswersBack.{IsTermThere, opened, answer_back, answer_faultless}
use Rattle.alg_reading_back.proofs.Closed.{IsClosed}
use Rattle.alg_reading_back.proofs.DerivedAnswers.{answer_derived}
use Rattle.alg_reading_back.proofs.LinesRead.{AreTaken, raw_of, taken_append}
use Rattle.alg_reading_back.proofs.LineTokens.{lines_split}
use Rattle.alg_reading_back.proofs.PiecesAt.{PiecesAt, pieces_at_left, pieces_at_right}
use Rattle.alg_reading_back.proofs.PlacedStatements.{lines_place, said_statement}
use Rattle.alg_reading_back.proofs.SpelledStatements.{line_pieces}
use Rattle.alg_reading_back.proofs.WrittenAnswers.{answer_raw, version_raw, written_line, written_step}
use Rattle.alg_reading_back.proofs.WrittenLines.{WrittenLine, indented, lines_pieces, written_answer, part_lines, answer_lines}
use Rattle.alg_reading_back.proofs.PartsTaken.{answered, clear_fault, indented_there, lines_taken, steps_taken}

-- the lines behind a version
version_place : (format : Format) (at : ℕ) → lines_of (version_raw format at) ≡ lines_place format
version_place formats.One at = refl
version_place formats.Two at = refl

-- ---- the lines of an answer

module _ (file g : File) (text : List ℕ) (distinct : AreDistinct (names_of g)) (grows : Grows g file)
    (closed : IsClosed g) (goal : Goal) (low : goal.equation.sort < length g.sorts)
    (are : AreAtoms g (goal_atoms file goal)) (table : goal_atoms g goal ≡ goal_atoms file goal) (format : Format)
    (last : last_goal g ≡ goal) (given : List (Option Answer)) where
  abbrev atoms : List Atom
  atoms = goal_atoms file goal

  abbrev IsWay : SoFar → ℕ → List WrittenLine → SoFar → Type 0
  IsWay now at lines end = AreTaken (annotated_way text) now at lines end

  -- the lines lead to an answer at some place
  abbrev LeadsTo : SoFar → ℕ → List WrittenLine → Option Answer → Type 0
  LeadsTo now at lines said = (q : Place) × IsWay now at lines (answered g given said q)

  -- behind one more line
  abbrev behind : WrittenLine → ℕ → ℕ
  behind l at = at + width (line_pieces l.pieces)

  abbrev write_line : Line → WrittenLine
  write_line l = indented (written_line file format atoms l)

  abbrev write_step : GoalStep → WrittenLine
  write_step s = indented (written_step file format atoms s)

  -- behind the first line of an answer
  abbrev place_of_said : Answer → Place
  place_of_said (answer.Certified constants cert) = lines_place format
  place_of_said said = places.Start

  place_is : (said : Answer) (at : ℕ) → place_behind_answer (answer_raw file format atoms said at) ≡ place_of_said said
  place_is (answer.Proved conditions) at = refl
  place_is (answer.Certified constants cert) at = version_place format _
  place_is (answer.No m left right) at = refl
  place_is (answer.ZeroDenominator denominator) at = refl
  place_is (answer.NoneUpTo power) at = refl
  place_is (answer.GaveUp limit) at = refl
  place_is answer.Atoms at = refl
  place_is answer.Range at = refl
  place_is answer.Degree at = refl

  head_taken : (said : Answer) (lines : List WrittenLine) (to : Option Answer) → IsPrintable file goal said →
      AllByRecursion (IsTermThere file g text distinct grows closed goal low) (terms_of said) → (at : ℕ) →
      let head = indented (written_answer file format atoms said) in
      PiecesAt text at (line_pieces head.pieces) →
      LeadsTo (answered g given (Some (opened said)) (place_of_said said)) (behind head at) lines to →
      LeadsTo (answered g given None places.AfterGoal) at (head ∷ lines) to
  head_taken said lines to is there at placed (q, later) =
      let written = written_answer file format atoms said in
      let head = indented written in
      let raw = answer_raw file format atoms said (at + 1 + 1) in
      let back = answer_back file g text distinct grows closed goal low are table format said is.parts there
      (at + 1 + 1)
      (indented_there text written at placed) in
      let clear = answer_faultless file g text distinct grows closed goal low are table format said (at + 1 + 1)
      (at + 1 + 1) is.form back.parts in
      let now = answered g given None places.AfterGoal in
      let next = answered g given (Some (opened said)) (place_of_said said) in
      let found : Option Answer → Option Answer = λ before. Some (answer_of g text (goal_atoms g (last_goal g)) raw) in
      let same : with_statement now text (raws.Answer raw) ≡ next =
      ap (λ xs. record { file = g; answers = xs; place = place_behind_answer raw })
      (with_last-append found given None
      ∙ ap (λ h. given ++ Some (answer_of g text (goal_atoms g h) raw) ∷ []) last
      ∙ ap (λ a. given ++ Some a ∷ []) back.same)
      ∙ ap (λ p. answered g given (Some (opened said)) p) (place_is said (at + 1 + 1)) in (
        q,
        (
          said_statement places.AfterGoal written.pieces (at + 1 + 1) (raws.Answer raw)
              (answer_derived file format atoms said (at + 1 + 1)),
          clear_fault g text (raw_of head at) refl back.names
              (ap (λ h. answer_faults g text h (at + 1 + 1) raw) last ∙ clear),
          subst (λ s. IsWay s (behind head at) lines (answered g given to q)) (sym same) later,
        ),
      )

  -- the lines and steps of an answer
  parts_taken : (said : Answer) → IsPrintable file goal said → (at : ℕ) →
      PiecesAt text at (lines_pieces (part_lines file format atoms said)) →
      LeadsTo (answered g given (Some (opened said)) (place_of_said said)) at (part_lines file format atoms said)
      (Some said)
  parts_taken (answer.Certified constants cert) is at placed =
      let over = is.parts.1 in
      let lines = map write_line cert.lines in
      let steps = map write_step cert.steps in
      let there = subst (λ ps. PiecesAt text at ps) (lines_split lines steps) placed in
      let first = lines_taken file g text distinct grows goal are table format last given constants cert.power
      cert.lines [] at
      (recursion_from_All (IsLineOver atoms) cert.lines over.lines)
      (pieces_at_left text at (lines_pieces lines) (lines_pieces steps) there) in
      let (q, later) = steps_taken file g text distinct grows goal are table format last given constants cert.power
      cert.lines cert.steps [] (lines_place format)
      (at + width (lines_pieces lines)) (inl refl) (recursion_from_All (IsStepOver atoms) cert.steps over.steps)
      (pieces_at_right text at (lines_pieces lines) (lines_pieces steps) there) in
      (q, taken_append (annotated_way text) lines steps _ _ _ at first later)
  parts_taken (answer.Proved conditions) is at placed = (places.Start, refl)
  parts_taken (answer.No m left right) is at placed = (places.Start, refl)
  parts_taken (answer.ZeroDenominator denominator) is at placed = (places.Start, refl)
  parts_taken (answer.NoneUpTo power) is at placed = (places.Start, refl)
  parts_taken (answer.GaveUp limit) is at placed = (places.Start, refl)
  parts_taken answer.Atoms is at placed = (places.Start, refl)
  parts_taken answer.Range is at placed = (places.Start, refl)
  parts_taken answer.Degree is at placed = (places.Start, refl)

  -- the answer to the last goal, if there is one, leads from none to it
  pub answer_taken : (said : Option Answer) → IfSome said (IsPrintable file goal) →
      IfSome said (λ said. AllByRecursion (IsTermThere file g text distinct grows closed goal low) (terms_of said)) →
      (at : ℕ) → PiecesAt text at (lines_pieces (answer_lines file format goal said)) →
      LeadsTo (answered g given None places.AfterGoal) at (answer_lines file format goal said) said
  answer_taken None is there at placed = (places.AfterGoal, refl)
  answer_taken (Some said) is there at placed =
      let head = indented (written_answer file format atoms said) in
      let parts = part_lines file format atoms said in
      head_taken said parts (Some said) is there at
      (pieces_at_left text at (line_pieces head.pieces) (lines_pieces parts) placed)
      (parts_taken said is (behind head at) (pieces_at_right text at (line_pieces head.pieces)
      (lines_pieces parts) placed))
