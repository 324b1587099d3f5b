-- The lines of a file with its answers are taken one after the other, each behind the front of the file before it.
use Rattle.std.proofs.Common.{◌≡◌, ◌<◌, ℕ, ◌+◌, List, [], ◌∷◌, ◌++◌, flat_map, length, take, Option, Some, None, refl, sym, ap, ◌∙◌, subst, arith}
use Rattle.std.specs.Prelude.{All}
use Rattle.std.specs.List.{AllByRecursion}
use Rattle.std.specs.Option.{IfSome}
use Rattle.std.proofs.lemmas.List.Elements.{All-weaker}
use Rattle.alg_lines.specs.declared.answer.Answer.{Answer}
use Rattle.alg_lines.specs.AnswerTerms.{terms_of}
use Rattle.alg_terms.specs.AnswerRules.{IsAnswerTerm}
use Rattle.alg_terms.specs.declared.file.File.{File}
use Rattle.alg_terms.specs.declared.file.Statement.{Statement}
use Rattle.alg_terms.specs.declared.file.Statement.TheVariants as statement
use Rattle.alg_terms.specs.declared.goals.Goal.{Goal}
use Rattle.alg_terms.specs.declared.term.Term.{Term}
use Rattle.alg_terms.specs.Members.{goal_at, no_goal}
use Rattle.alg_terms.specs.Nodes.{fold_term}
use Rattle.alg_terms.specs.Occurring.{UseOnly, node_vars, node_homs}
use Rattle.alg_terms.specs.Order.{declared_by, declared_by_all}
use Rattle.alg_terms.proofs.JoinedLists.{all_left, all_right}
use Rattle.alg_tokens.specs.Laws.{width, tokens_of}
use Rattle.alg_reader.specs.declared.format.Format.{Format}
use Rattle.alg_reader.specs.declared.place.Place.{Place}
use Rattle.alg_reader.specs.declared.place.Place.TheVariants as places
use Rattle.alg_reader.specs.declared.raw.RawKind.{RawKind}
use Rattle.alg_annotated.specs.Places.{place_behind}
use Rattle.alg_annotated.specs.Reading.{SoFar, with_statement, annotated_way}
use Rattle.alg_annotated.specs.Resolved.{answers_with}
use Rattle.alg_printer.specs.Printable.{IsPrintable}
use Rattle.alg_printer.specs.Text.{answer_at, IsStatementOf}
use Rattle.alg_reading_back.specs.ReadingAnswers.{CanBePrinted}
use Rattle.alg_reading_back.proofs.AnswersBack.{IsTermThere}
use Rattle.alg_reading_back.proofs.AnswersTaken.{answer_taken}
use Rattle.alg_reading_back.proofs.PartsTaken.{clear_fault}
use Rattle.alg_reading_back.proofs.Closed.{IsClosed}
use Rattle.alg_reading_back.proofs.ClosedFronts.{IsClosedBy, closed_next, front_closed, sort_low}
use Rattle.alg_reading_back.proofs.FrontNames.{front_distinct}
use Rattle.alg_reading_back.proofs.FrontTables.{AreHypsNamed, grows_on, atoms_there, goal_is_last, table_there}
use Rattle.alg_reading_back.proofs.Fronts.{Continues, front, goals_in, grows, next}
use Rattle.alg_reading_back.proofs.GoalsBack.{range}
use Rattle.alg_reading_back.proofs.LinesRead.{AreTaken, raw_of}
use Rattle.alg_reading_back.proofs.NextLists.{next_item, same_list}
use Rattle.alg_reading_back.proofs.PiecesAt.{PiecesAt, pieces_at_left, pieces_at_right}
use Rattle.alg_reading_back.proofs.PlacedStatements.{statement_placed}
use Rattle.alg_reading_back.proofs.Shrinking.{in_range}
use Rattle.alg_reading_back.proofs.SpelledStatements.{line_pieces}
use Rattle.alg_reading_back.proofs.StatementsRead.{statement_derived}
use Rattle.alg_reading_back.proofs.StatementsTaken.{statement_taken}
use Rattle.alg_reading_back.proofs.Steps.{count_with}
use Rattle.alg_reading_back.proofs.Taken.{IsTaken}
use Rattle.alg_reading_back.proofs.UsedBefore.{vars_low, homs_low}
use Rattle.alg_reading_back.proofs.WrittenLines.{WrittenLine, plain_line, lines_pieces, answer_lines, statement_lines}
use Rattle.alg_reading_back.proofs.WrittenStatements.{written_goal, written_statement}
use Rattle.alg_reading_back.proofs.WrittenTerms.{line_feed}
use Rattle.alg_reading_back.proofs.AnsweredRules.{same_names, same_faults, terms_stand}

-- the state behind some statements
module _ (file : File) (answers : List (Option Answer)) where
  abbrev pub so_far : List Statement → Place → SoFar
  so_far before p = record { file = front file before; answers = take (goals_in before) answers; place = p }

module _ (file : File) (answers : List (Option Answer)) (can : CanBePrinted file answers) (format : Format)
    (text : List ℕ) where
  abbrev IsWay : SoFar → ℕ → List WrittenLine → SoFar → Type 0
  IsWay now at lines end = AreTaken (annotated_way text) now at lines end

  abbrev lines_of : Statement → List WrittenLine
  lines_of s = statement_lines file format answers s

  -- where a statement of the file stands, and what is known of the front before it
  pub record IsThere (before after : List Statement) (s : Statement) (at : ℕ) : Type 0 where
    pub split : file.order ≡ before ++ (s ∷ after)
    pub is : IsStatementOf file s
    pub closed : IsClosedBy file before
    pub named : AreHypsNamed file before
    pub placed : PiecesAt text at (line_pieces (written_statement file s).pieces)

  module _ (before after : List Statement) (s : Statement) (at : ℕ) (there : IsThere before after s at) where
    abbrev kind : RawKind
    kind = (written_statement file s).raw at

    taken : IsTaken (front file before) text kind (front file (before ++ s ∷ []))
    taken =
        statement_taken file can.valid before after s there.split there.is there.closed text at
        (pieces_at_left text at (written_statement file s).pieces (line_feed ∷ []) there.placed)

    -- its line leads to the next front, with the answers that it adds
    line_taken : (p : Place) (others : List WrittenLine) (added : List (Option Answer)) (end : SoFar) →
        answers_with (front file before) text kind (take (goals_in before) answers) ≡ added →
        IsWay (record { file = front file (before ++ s ∷ []); answers = added; place = place_behind p kind })
        (at + width (line_pieces (written_statement file s).pieces)) others end →
        IsWay (so_far file answers before p) at (plain_line (written_statement file s) ∷ others) end
    line_taken p others added end adds later =
        let g = front file before in
        let line = plain_line (written_statement file s) in
        let now = so_far file answers before p in
        let same : with_statement now text kind
        ≡ record { file = front file (before ++ s ∷ []); answers = added; place = place_behind p kind } =
        ap (λ f. record { file = f; answers = answers_with g text kind now.answers; place = place_behind p kind })
        taken.extends
        ∙ ap (λ xs. record { file = front file (before ++ s ∷ []); answers = xs; place = place_behind p kind }) adds
        in (
          statement_placed p (tokens_of at (written_statement file s).pieces) kind
              (statement_derived file can.valid s there.is at),
          clear_fault g text (raw_of line at) refl (same_names file s g text at ∙ taken.names)
              (same_faults file s g text at at ∙ taken.sorts),
          subst (λ s. IsWay s (at + width (line_pieces line.pieces)) others end) (sym same) later,
        )

    -- a declaration leads from one front to the next
    pub declaration_taken : (p : Place) → lines_of s ≡ plain_line (written_statement file s) ∷ [] →
        length (declared_by s).goals ≡ 0 → answers_with (front file before) text kind (take (goals_in before) answers)
        ≡ take (goals_in before) answers →
        (q : Place) × IsWay (so_far file answers before p) at (lines_of s) (so_far file answers (before ++ s ∷ []) q)
    declaration_taken p alone none keeps =
        let end = so_far file answers (before ++ s ∷ []) (place_behind p kind) in
        let kept = same_list (λ s. (declared_by s).goals) answers before s none in (
          place_behind p kind,
          subst (λ ls. IsWay (so_far file answers before p) at ls end) (sym alone)
              (line_taken p [] (take (goals_in (before ++ s ∷ [])) answers) end (keeps ∙ kept) refl),
        )

  -- ---- goals

  module _ (before after : List Statement) (i : ℕ) (at : ℕ) (there : IsThere before after (statement.Goal i) at) where
    abbrev goal : Goal
    goal = goal_at file i

    abbrev further : List Statement
    further = before ++ statement.Goal i ∷ []

    abbrev g : File
    g = front file further

    low : i < length file.goals
    low = there.is

    front_is : IsClosed (front file before)
    front_is =
        let fits = (next file can.valid.ordered before after (statement.Goal i) there.split).sorts.1 in
        front_closed file before (omega (arith, fits)) there.closed

    next_is : IsClosed g
    next_is =
        let s = statement.Goal i in
        let fits = (next file can.valid.ordered before after s there.split).sorts.1 in
        let count = count_with (λ s. (declared_by s).sorts) before s in
        front_closed file further (omega (arith, fits, count))
        (closed_next file can.valid before after s there.split there.is there.closed)

    sort_there : goal.equation.sort < length g.sorts
    sort_there =
        let before_is = sort_low file can.valid before after goal.equation (can.valid.goals i no_goal low).equation
        (range file can.valid before after i there.split low front_is) front_is in
        omega (arith, before_is, (grows_on file before (statement.Goal i)).more_sorts)

    -- the terms of the answer are of the front
    terms_there : (ts : List Term) → AllByRecursion (IsAnswerTerm file goal) ts →
        All (λ k. k < length g.vars) (flat_map (fold_term node_vars) ts) →
        All (λ f. f < length g.homs) (flat_map (fold_term node_homs) ts) →
        AllByRecursion (IsTermThere file g text (front_distinct file can.valid further)
        (grows file further) next_is goal
        sort_there) ts
    terms_there [] all vars homs = tt
    terms_there (t ∷ ts) all vars homs =
        let low_var : ℕ → Type 0 = λ k. k < length g.vars in
        let low_hom : ℕ → Type 0 = λ f. f < length g.homs in
        let v = flat_map (fold_term node_vars) ts in
        let h = flat_map (fold_term node_homs) ts in (
          (
            all.0,
            in_range g t (all_left low_var (fold_term node_vars t) v vars)
                (all_left low_hom (fold_term node_homs t) h homs),
          ),
          terms_there ts all.1 (all_right low_var (fold_term node_vars t) v vars)
              (all_right low_hom (fold_term node_homs t) h homs),
        )

    said_there : (said : Option Answer) → IfSome said (IsPrintable file goal) →
        IfSome said (λ said. UseOnly (declared_by_all before).vars (declared_by_all before).homs (terms_of said)) →
        IfSome said (λ said. AllByRecursion (IsTermThere file g text (front_distinct file can.valid further)
        (grows file further) next_is goal sort_there) (terms_of said))
    said_there None printable named = tt
    said_there (Some said) printable named =
        let s = statement.Goal i in
        let more = grows_on file before s in
        let vars = flat_map (fold_term node_vars) (terms_of said) in
        let homs = flat_map (fold_term node_homs) (terms_of said) in
        terms_there (terms_of said) (terms_stand file goal said printable.parts)
        (All-weaker (λ k. k < length (front file before).vars) (λ k. k < length g.vars)
        (λ k below. omega (arith, below, more.more_vars)) vars
        (vars_low file can.valid before after s there.split vars named.vars))
        (All-weaker (λ f. f < length (front file before).homs) (λ f. f < length g.homs)
        (λ f below. omega (arith, below, more.more_homs)) homs
        (homs_low file can.valid before after s there.split homs named.homs))

    -- a goal and its answer lead to the next front
    pub goal_taken : (p : Place) → PiecesAt text at (lines_pieces (lines_of (statement.Goal i))) →
        (q : Place) × IsWay (so_far file answers before p) at (lines_of (statement.Goal i))
        (so_far file answers further q)
    goal_taken p placed =
        let s = statement.Goal i in
        let said = answer_at answers i in
        let given = take (goals_in before) answers in
        let line = plain_line (written_goal file goal) in
        let others = answer_lines file format goal said in
        let printable = can.printable.each i low in
        let named = can.in_order before after i there.split in
        let start = at + width (line_pieces line.pieces) in
        let (q, later) = answer_taken file g text (front_distinct file can.valid further)
        (grows file further) next_is goal
        sort_there (atoms_there file can.valid before after i there.split low front_is there.named)
        (table_there file can.valid before after i there.split low front_is there.named) format
        (goal_is_last file can.valid before after i there.split low front_is there.named) given said printable
        (said_there said printable named) start
        (pieces_at_right text at (line_pieces line.pieces) (lines_pieces others) placed) in
        let continues = subst (λ n. Continues (λ s. (declared_by s).goals) before s n) (sym can.printable.count)
        (next file can.valid.ordered before after s there.split).goals in
        let item = next_item (λ s. (declared_by s).goals) answers None before s i continues refl in
        let end = so_far file answers further q in
        let whole = subst (λ xs. IsWay (record { file = g; answers = given ++ None ∷ []; place = places.AfterGoal })
        start
        others (record { file = g; answers = xs; place = q })) item.items later in
        (q, line_taken before after s at there p others (given ++ None ∷ []) end refl whole)
