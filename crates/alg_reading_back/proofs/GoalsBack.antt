-- A goal of a valid file, in its canonical text, is taken by the front of the file before it.
use Rattle.std.proofs.Common.{◌≡◌, ◌<◌, ℕ, ◌+◌, false, List, [], ◌∷◌, ◌++◌, length, map, refl, ap, ◌∙◌}
use Rattle.std.specs.Prelude.{All, Contains}
use Rattle.std.specs.List.{flat_map}
use Rattle.std.proofs.lemmas.List.Elements.{All-nil}
use Rattle.alg_terms.specs.declared.file.File.{File}
use Rattle.alg_terms.specs.declared.file.Statement.{Statement}
use Rattle.alg_terms.specs.declared.file.Statement.TheVariants as statement
use Rattle.alg_terms.specs.declared.goals.Equation.{Equation}
use Rattle.alg_terms.specs.declared.goals.Goal.{Goal}
use Rattle.alg_terms.specs.declared.goals.Method.{Method}
use Rattle.alg_terms.specs.declared.goals.Method.TheVariants.{ByRing, ByField, ByNsatz}
use Rattle.alg_terms.specs.GoalRules.{IsGoal, MayBeBy}
use Rattle.alg_terms.specs.Members.{goal_at, no_goal, uses_of}
use Rattle.alg_terms.specs.Occurring.{homs_in}
use Rattle.alg_terms.specs.Order.{declared_by, declared_by_all}
use Rattle.alg_terms.specs.Valid.{IsValid}
use Rattle.alg_terms.proofs.JoinedLists.{all_left, all_right}
use Rattle.alg_tokens.specs.declared.token.Word.TheVariants as words
use Rattle.alg_tokens.specs.Laws.{width}
use Rattle.alg_reader.specs.declared.raw.RawEquation.{RawEquation}
use Rattle.alg_reader.specs.declared.raw.RawMethod.{RawMethod}
use Rattle.alg_typing.specs.AnswerTerms.{may_divide}
use Rattle.alg_typing.specs.NameFaults.{equation_names, method_names}
use Rattle.alg_typing.specs.Resolved.{equation_of, method_of}
use Rattle.alg_typing.specs.SortFaults.{equation_sorts, method_sorts, may_divide_by, sort_of_sides}
use Rattle.alg_reading_back.proofs.Closed.{IsClosed}
use Rattle.alg_reading_back.proofs.ClosedFronts.{sort_low}
use Rattle.alg_typing.proofs.SortLaws.{plain_divides}
use Rattle.alg_reading_back.proofs.DividesBack.{fields_divide}
use Rattle.alg_reading_back.proofs.EquationsBack.{IsEquationBack, equation_back}
use Rattle.alg_reading_back.proofs.FrontNames.{front_distinct}
use Rattle.alg_reading_back.proofs.Fronts.{front, grows, next}
use Rattle.alg_reading_back.proofs.WrittenMethods.{method_pieces, method_raw}
use Rattle.alg_reading_back.proofs.WrittenStatements.{written_goal, written_sides, goal_front, dot}
use Rattle.alg_reading_back.proofs.WrittenTerms.{space, word}
use Rattle.alg_reading_back.proofs.MethodsBack.{IsMethodBack, method_back, may_divide_back}
use Rattle.alg_reading_back.proofs.NamesTaken.{two_empty}
use Rattle.alg_reading_back.proofs.NextLists.{same_lists, same_list, next_item}
use Rattle.alg_reading_back.proofs.PiecesAt.{PiecesAt, pieces_at_left, pieces_at_right}
use Rattle.alg_typing.proofs.SortsClear.{Divides}
use Rattle.alg_reading_back.proofs.Taken.{IsTaken}
use Rattle.alg_reading_back.proofs.UsedBefore.{AreInRange, equation_low, homs_low, hyps_low}
use Rattle.alg_reading_back.proofs.UsesBack.{IsUseInRange, uses_in_range}

-- a goal by its parts
goal_by : (goal : Goal) (equation : Equation) (method : Method) → equation ≡ goal.equation → method ≡ goal.method →
    record { equation = equation; method = method } ≡ goal
goal_by goal equation method p q =
    ap (λ e. record { equation = e; method = method }) p ∙ ap (λ m. record { equation = goal.equation; method = m }) q

-- the sorts of a goal whose equation and method come back
sorts_taken : (g : File) (text : List ℕ) (e : Equation) (m : Method) (raw : RawEquation) (raw_method : RawMethod)
    (method_at : ℕ) → may_divide_by g text raw_method ≡ may_divide m →
    IsEquationBack g text (may_divide m) e raw → IsMethodBack g text e.sort method_at m raw_method →
    equation_sorts g text (may_divide_by g text raw_method) raw
    ++ method_sorts g text (sort_of_sides g text raw) method_at raw_method ≡ []
sorts_taken g text e m raw raw_method method_at may equation method =
    two_empty _ _ (ap (λ b. equation_sorts g text b raw) may ∙ equation.sorts)
    (ap (λ o. method_sorts g text o method_at raw_method) equation.sort ∙ method.sorts)

module _ (file : File) (valid : IsValid file) (before after : List Statement) (i : ℕ)
    (split : file.order ≡ before ++ (statement.Goal i ∷ after)) (low : i < length file.goals)
    (closed : IsClosed (front file before)) where
  abbrev g : File
  g = front file before

  abbrev goal : Goal
  goal = goal_at file i

  abbrev e : Equation
  e = goal.equation

  rules : IsGoal file goal
  rules = valid.goals i no_goal low

  -- its equation, the morphisms of its uses and their hypotheses are those of the front
  pub range : AreInRange g e
  range =
      let s = statement.Goal i in
      let used = valid.ordered.earlier before after s split in
      equation_low file valid before after s split e used.vars
      (all_left (Contains (declared_by_all before).homs) (homs_in e)
      (flat_map (λ used. used.path) (uses_of goal.method)) used.homs)

  pub uses_range : All (IsUseInRange g) (uses_of goal.method)
  uses_range =
      let s = statement.Goal i in
      let used = valid.ordered.earlier before after s split in
      let homs = flat_map (λ used. used.path) (uses_of goal.method) in
      uses_in_range g (uses_of goal.method)
      (hyps_low file valid before after s split (map (λ used. used.hyp) (uses_of goal.method)) used.hyps)
      (homs_low file valid before after s split homs
      (all_right (Contains (declared_by_all before).homs) (homs_in e) homs used.homs))

  sort_is_low : e.sort < length g.sorts
  sort_is_low = sort_low file valid before after e rules.equation range closed

  -- its sides divide only where its method lets them
  sides_divide : (m : Method) → MayBeBy file e m →
      Divides g (may_divide m) e.sort [] e.left × Divides g (may_divide m) e.sort [] e.right
  sides_divide ByRing may =
      (plain_divides g false e.left e.sort [] may.0, plain_divides g false e.right e.sort [] may.1)
  sides_divide ByField may =
      let none = All-nil (λ f. f < length g.homs) in (
        fields_divide g file (grows file before) closed e.left e.sort [] sort_is_low range.left none may.left,
        fields_divide g file (grows file before) closed e.right e.sort [] sort_is_low range.right none may.right,
      )
  sides_divide (ByNsatz uses power limit) may = (
    plain_divides g false e.left e.sort [] may.divides_nowhere.0,
    plain_divides g false e.right e.sort [] may.divides_nowhere.1,
  )

  -- with the goal the front is the next one
  goal_added : (goal' : Goal) → goal' ≡ goal →
      record g { goals = g.goals ++ goal' ∷ []; order = g.order ++ statement.Goal (length g.goals) ∷ [] }
      ≡ front file (before ++ statement.Goal i ∷ [])
  goal_added goal' same =
      let s = statement.Goal i in
      let item = next_item (λ s. (declared_by s).goals) file.goals no_goal before s i
      (next file valid.ordered before after s split).goals refl in
      same_lists _ (front file (before ++ s ∷ [])) (same_list (λ s. (declared_by s).sorts) file.sorts before s refl)
      (same_list (λ s. (declared_by s).homs) file.homs before s refl)
      (same_list (λ s. (declared_by s).vars) file.vars before s refl)
      (same_list (λ s. (declared_by s).hyps) file.hyps before s refl)
      (ap (λ x. g.goals ++ x ∷ []) same ∙ item.items) (ap (λ n. before ++ statement.Goal n ∷ []) item.counted)

  pub goal_taken : (text : List ℕ) (at : ℕ) → PiecesAt text at (written_goal file goal).pieces →
      IsTaken g text ((written_goal file goal).raw at) (front file (before ++ statement.Goal i ∷ []))
  goal_taken text at placed =
      let distinct = front_distinct file valid before in
      let m = goal.method in
      let first = word words.Goal ∷ space ∷ [] in
      let sides = written_sides file first false e in
      let by = goal_front file e in
      let (left, right) = sides_divide m rules.method in
      let equation = equation_back file g text distinct (grows file before) (may_divide m) e rules.equation range
      left right false first (space ∷ word words.By ∷ space ∷ []) at
      (pieces_at_left text at by (method_pieces file m ++ dot) placed) in
      let method_at = at + width by in
      let there = pieces_at_left text method_at (method_pieces file m) dot
      (pieces_at_right text at by (method_pieces file m ++ dot) placed) in
      let method = method_back file g text distinct (grows file before) e m method_at method_at rules.method sort_is_low
      uses_range closed there in
      let raw_method = method_raw file method_at m in
      record {
        names = two_empty (equation_names g text (sides.raw at)) (method_names g text raw_method) equation.names
            method.names;
        sorts = sorts_taken g text e m (sides.raw at) raw_method method_at (may_divide_back file g text method_at m)
            equation method;
        extends = goal_added _
            (goal_by goal (equation_of g text (sides.raw at)) (method_of g text raw_method) equation.equation
            method.back);
      }
