-- The lines and steps of a certificate are taken behind its answer: they have no faults there, and lead to it whole.
use Rattle.std.proofs.Common.{◌≡◌, ◌⊎◌, inl, inr, ℕ, ◌+◌, List, [], ◌∷◌, ◌++◌, map, Option, Some, None, ℤ, refl, sym, ap, ◌∙◌, subst, append_assoc, append-nil}
use Rattle.std.specs.List.{AllByRecursion}
use Rattle.std.specs.Option.{option_or, option_map}
use Rattle.alg_lines.specs.declared.answer.Answer.{Answer}
use Rattle.alg_lines.specs.declared.answer.Answer.TheVariants as answer
use Rattle.alg_lines.specs.declared.cert.GoalStep.{GoalStep}
use Rattle.alg_lines.specs.declared.cert.Line.{Line}
use Rattle.alg_reify.specs.Table.{goal_atoms}
use Rattle.alg_terms.specs.declared.file.File.{File}
use Rattle.alg_terms.specs.declared.goals.Goal.{Goal}
use Rattle.alg_terms.specs.declared.term.Atom.{Atom}
use Rattle.alg_terms.specs.Valid.{names_of}
use Rattle.alg_tokens.specs.Codes.{fault_at}
use Rattle.alg_tokens.specs.declared.code.Code.TheVariants as code
use Rattle.alg_tokens.specs.declared.token.Refusal.{Refusal}
use Rattle.alg_tokens.specs.declared.token.Token.{Token}
use Rattle.alg_tokens.specs.Laws.{width}
use Rattle.alg_reader.specs.declared.format.Format.{Format}
use Rattle.alg_reader.specs.declared.format.Format.TheVariants as formats
use Rattle.alg_reader.specs.declared.place.Place.{Place}
use Rattle.alg_reader.specs.declared.raw.RawKind.{RawKind}
use Rattle.alg_reader.specs.declared.raw.RawKind.TheVariants as raws
use Rattle.alg_reader.specs.declared.reading.Raw.{Raw}
use Rattle.alg_reader.specs.Forms as rules
use Rattle.alg_reader.specs.Forms.{rule}
use Rattle.alg_reader.specs.Grammar.{said_at}
use Rattle.alg_reader.specs.TermMeaning.{Value}
use Rattle.alg_typing.specs.Faults.{first_of}
use Rattle.alg_typing.proofs.FreshNames.{AreDistinct}
use Rattle.alg_typing.proofs.Growing.{Grows}
use Rattle.alg_annotated.specs.Monomials.{mono_faults}
use Rattle.alg_annotated.specs.Names.{statement_names}
use Rattle.alg_annotated.specs.Places.{steps_of}
use Rattle.alg_annotated.specs.Reading.{SoFar, first_fault, with_statement, annotated_way}
use Rattle.alg_annotated.specs.Resolved.{with_part, with_line, with_step}
use Rattle.alg_annotated.specs.Rules.{last_goal, count_fault, statement_faults}
use Rattle.alg_annotated.proofs.Lasts.{with_last-append}
use Rattle.alg_printer.specs.Printable.{IsLineOver, IsStepOver}
use Rattle.alg_printer.proofs.Leaves.{AreAtoms}
use Rattle.alg_reading_back.proofs.AtomNumbers.{goal_once}
use Rattle.alg_reading_back.proofs.DerivedForms.{IsDerived}
use Rattle.alg_reading_back.proofs.DerivedLines.{line_derived, step_derived}
use Rattle.alg_reading_back.proofs.LinesRead.{AreTaken, raw_of}
use Rattle.alg_reading_back.proofs.PartsBack.{line_back, step_back}
use Rattle.alg_reading_back.proofs.PiecesAt.{PiecesAt, pieces_at_left, pieces_at_right}
use Rattle.alg_reading_back.proofs.PlacedStatements.{lines_place, steps_place, said_statement, line_said, first_step_said, step_said}
use Rattle.alg_reading_back.proofs.SpelledStatements.{line_pieces}
use Rattle.alg_reading_back.proofs.WrittenAnswers.{written_line, written_step}
use Rattle.alg_reading_back.proofs.WrittenLines.{WrittenLine, indented, lines_pieces}
use Rattle.alg_reading_back.proofs.WrittenLists.{Written}
use Rattle.alg_reading_back.proofs.WrittenStatements.{dot}
use Rattle.alg_reading_back.proofs.WrittenTerms.{line_feed}

-- a statement without faults of names and others, and without a node that is too deep, has no first fault
pub clear_fault : (g : File) (text : List ℕ) (raw : Raw) → raw.too_deep ≡ None →
    statement_names g text raw.kind ≡ [] → statement_faults g text raw.start raw.kind ≡ [] →
    first_fault g text raw ≡ None
clear_fault g text raw shallow names faults =
    let named = first_of (statement_names g text raw.kind) in
    let others = first_of (statement_faults g text raw.start raw.kind) in
    ap (λ deep. option_or (option_map (fault_at code.Depth) deep) (option_or named others)) shallow
    ∙ ap (λ fs. option_or (first_of fs) others) names ∙ ap first_of faults

-- the pieces of a statement behind two spaces
pub indented_there : (text : List ℕ) (said : Written RawKind) (at : ℕ) → PiecesAt text at (line_pieces
    (indented said).pieces) →
    PiecesAt text (at + 1 + 1) said.pieces
indented_there text said at placed =
    pieces_at_left text (at + 1 + 1) said.pieces dot
    (pieces_at_left text at (indented said).pieces (line_feed ∷ []) placed).1.1

-- ---- the places of steps

abbrev pub IsStepPlace : Format → Place → Type 0
IsStepPlace format p = (p ≡ lines_place format) ⊎ (p ≡ steps_place format)

steps_stay : (format : Format) → (steps_of (lines_place format) ≡ steps_place format)
    × (steps_of (steps_place format) ≡ steps_place format)
steps_stay formats.One = (refl, refl)
steps_stay formats.Two = (refl, refl)

next_step_place : (format : Format) (p : Place) → IsStepPlace format p → IsStepPlace format (steps_of p)
next_step_place format p (inl e) = inr (ap steps_of e ∙ (steps_stay format).0)
next_step_place format p (inr e) = inr (ap steps_of e ∙ (steps_stay format).1)

step_there : (format : Format) (p : Place) → IsStepPlace format p → (ts : List Token) (x : Value) →
    IsDerived (rule (rules.Step format)) ts x → IsDerived (said_at p) ts x
step_there format p (inl e) ts x d =
    subst (λ p. IsDerived (said_at p) ts x) (sym e) (first_step_said format ts x d)
step_there format p (inr e) ts x d = subst (λ p. IsDerived (said_at p) ts x) (sym e) (step_said format ts x d)

-- what the text is so far, where this is the answer to the last goal of a file
abbrev pub answered : File → List (Option Answer) → Option Answer → Place → SoFar
answered g given said p = record { file = g; answers = given ++ said ∷ []; place = p }

-- ---- lines and steps

module _ (file g : File) (text : List ℕ) (distinct : AreDistinct (names_of g)) (grows : Grows g file) (goal : Goal)
    (are : AreAtoms g (goal_atoms file goal)) (table : goal_atoms g goal ≡ goal_atoms file goal) (format : Format)
    (last : last_goal g ≡ goal) (given : List (Option Answer)) where
  abbrev atoms : List Atom
  atoms = goal_atoms file goal

  -- the table of the last goal is the goal's
  atoms_same : goal_atoms g (last_goal g) ≡ goal_atoms file goal
  atoms_same = ap (goal_atoms g) last ∙ table

  abbrev pub IsWay : SoFar → ℕ → List WrittenLine → SoFar → Type 0
  IsWay now at lines end = AreTaken (annotated_way text) now at lines end

  -- behind one more line
  abbrev pub behind : WrittenLine → ℕ → ℕ
  behind l at = at + width (line_pieces l.pieces)

  -- ---- lines

  abbrev certified : List ℤ → ℕ → List Line → List GoalStep → Option Answer
  certified constants power lines steps =
      Some (answer.Certified constants (record { power = power; lines = lines; steps = steps }))

  abbrev pub write_line : Line → WrittenLine
  write_line l = indented (written_line file format atoms l)

  -- the faults of a line and of a step over a table
  abbrev faults_over : List Atom → RawKind → List Refusal
  faults_over a (raws.Line x m i b n j d) =
      mono_faults g text a m ++ count_fault i ++ mono_faults g text a n ++ count_fault j
  faults_over a (raws.Step x b n j d) = mono_faults g text a n ++ count_fault j
  faults_over a kind = []

  -- from behind one line to behind the next
  pub go_on : (now next end : SoFar) (at : ℕ) (lines : List WrittenLine) → now ≡ next → IsWay next at lines end →
      IsWay now at lines end
  go_on now next end at lines same way = subst (λ s. IsWay s at lines end) (sym same) way

  pub lines_taken : (constants : List ℤ) (power : ℕ) (ls done : List Line) (at : ℕ) → AllByRecursion
      (IsLineOver atoms) ls →
      PiecesAt text at (lines_pieces (map write_line ls)) →
      IsWay (answered g given (certified constants power done []) (lines_place format)) at (map write_line ls)
      (answered g given (certified constants power (done ++ ls) []) (lines_place format))
  lines_taken constants power [] done at all placed =
      ap (λ ls. answered g given (certified constants power ls []) (lines_place format)) (sym (append-nil done))
  lines_taken constants power (l ∷ ls) done at all placed =
      let p = lines_place format in
      let line = write_line l in
      let others = map write_line ls in
      let said = certified constants power done [] in
      let now = answered g given said p in
      let here = pieces_at_left text at (line_pieces line.pieces) (lines_pieces others) placed in
      let rest = pieces_at_right text at (line_pieces line.pieces) (lines_pieces others) placed in
      let back = line_back file g text distinct grows atoms are (goal_once file goal) format l all.0 (at + 1 + 1)
      (indented_there text (written_line file format atoms l) at here) in
      let further = done ++ l ∷ [] in
      let next = answered g given (certified constants power further []) p in
      let kind = line.raw at in
      let same : with_statement now text kind ≡ next = ap (λ xs. record { file = g; answers = xs; place = p })
      (with_last-append (with_part g text (goal_atoms g (last_goal g)) kind) given said
      ∙ ap (λ a. given ++ with_part g text a kind said ∷ []) atoms_same
      ∙ ap (λ x. given ++ with_line x said ∷ []) back.same) in
      let later = subst (λ xs. IsWay next (behind line at) others (answered g given
      (certified constants power xs []) p))
      (append_assoc done (l ∷ []) ls) (lines_taken constants power ls further (behind line at) all.1 rest) in (
        said_statement p (written_line file format atoms l).pieces (at + 1 + 1) kind
            (line_said format _ _ (line_derived file format atoms l (at + 1 + 1))),
        clear_fault g text (raw_of line at) refl back.names
            (ap (λ a. faults_over a kind) atoms_same ∙ back.clear),
        go_on (with_statement now text kind) next _ (behind line at) others same later,
      )

  -- ---- steps

  abbrev pub write_step : GoalStep → WrittenLine
  write_step s = indented (written_step file format atoms s)

  -- the lines lead to an answer at some place
  abbrev pub LeadsTo : SoFar → ℕ → List WrittenLine → Option Answer → Type 0
  LeadsTo now at lines said = (q : Place) × IsWay now at lines (answered g given said q)

  pub steps_taken : (constants : List ℤ) (power : ℕ) (ls : List Line) (ss done : List GoalStep) (p : Place) (at : ℕ) →
      IsStepPlace format p → AllByRecursion (IsStepOver atoms) ss → PiecesAt text at (lines_pieces
      (map write_step ss)) →
      LeadsTo (answered g given (certified constants power ls done) p) at (map write_step ss)
      (certified constants power ls (done ++ ss))
  steps_taken constants power ls [] done p at is all placed =
      (p, ap (λ ss. answered g given (certified constants power ls ss) p) (sym (append-nil done)))
  steps_taken constants power ls (s ∷ ss) done p at is all placed =
      let line = write_step s in
      let others = map write_step ss in
      let said = certified constants power ls done in
      let now = answered g given said p in
      let here = pieces_at_left text at (line_pieces line.pieces) (lines_pieces others) placed in
      let rest = pieces_at_right text at (line_pieces line.pieces) (lines_pieces others) placed in
      let back = step_back file g text distinct grows atoms are (goal_once file goal) format s all.0 (at + 1 + 1)
      (indented_there text (written_step file format atoms s) at here) in
      let further = done ++ s ∷ [] in
      let next = answered g given (certified constants power ls further) (steps_of p) in
      let kind = line.raw at in
      let same : with_statement now text kind ≡ next = ap (λ xs. record { file = g; answers = xs; place = steps_of p })
      (with_last-append (with_part g text (goal_atoms g (last_goal g)) kind) given said
      ∙ ap (λ a. given ++ with_part g text a kind said ∷ []) atoms_same
      ∙ ap (λ x. given ++ with_step x said ∷ []) back.same) in
      let (q, taken) =
      steps_taken constants power ls ss further (steps_of p) (behind line at)
      (next_step_place format p is) all.1 rest in
      let later = subst (λ xs. IsWay next (behind line at) others (answered g given
      (certified constants power ls xs) q))
      (append_assoc done (s ∷ []) ss) taken in (
        q,
        (
          said_statement p (written_step file format atoms s).pieces (at + 1 + 1) kind
              (step_there format p is _ _ (step_derived file format atoms s (at + 1 + 1))),
          clear_fault g text (raw_of line at) refl back.names
              (ap (λ a. faults_over a kind) atoms_same ∙ back.clear),
          go_on (with_statement now text kind) next _ (behind line at) others same later,
        ),
      )
