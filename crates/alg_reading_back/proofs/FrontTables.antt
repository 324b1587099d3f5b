-- The table of a goal in the front of a file that ends with it is the goal's, and its atoms are of the front.
use Rattle.std.proofs.Common.{◌≡◌, ◌<◌, ◌≤◌, inl, inr, ℕ, ◌-◌, true, false, nat_le, List, [], ◌∷◌, ◌++◌, flat_map, length, take, refl, sym, ap, ◌∙◌, subst, arith, if◌then◌else◌, length-append}
use Rattle.std.specs.Prelude.{Bool, slice_index_or}
use Rattle.std.specs.List.{AllByRecursion}
use Rattle.std.proofs.lemmas.Bool.{cases_lt}
use Rattle.std.proofs.lemmas.List.{get_or_default, length-take}
use Rattle.std.proofs.lemmas.List.Elements.{All-nil, All-cons, All-head, All-tail, All-append, All-filter, All-weaker, recursion_from_All}
use Rattle.std.proofs.Math.Seq.{get_or-append_seam}
use Rattle.alg_annotated.specs.Rules.{last_goal}
use Rattle.alg_reify.specs.Table.{atom_eq, goal_atoms, equation_leaves, use_leaves, table, MAX_ATOMS}
use Rattle.alg_reify.proofs.Uses.{use_leaves-at}
use Rattle.alg_terms.specs.declared.file.File.{File}
use Rattle.alg_terms.specs.declared.file.Statement.{Statement}
use Rattle.alg_terms.specs.declared.file.Statement.TheVariants as statement
use Rattle.alg_terms.specs.declared.goals.Equation.{Equation}
use Rattle.alg_terms.specs.declared.goals.Goal.{Goal}
use Rattle.alg_terms.specs.declared.goals.Hyp.{Hyp}
use Rattle.alg_terms.specs.declared.goals.Use.{Use}
use Rattle.alg_terms.specs.declared.term.Atom.{Atom}
use Rattle.alg_terms.specs.Lists.{each_once}
use Rattle.alg_terms.specs.Members.{goal_at, hyp_at, no_goal, no_hyp, uses_of}
use Rattle.alg_terms.specs.Order.{declared_by}
use Rattle.alg_terms.specs.Valid.{IsValid}
use Rattle.alg_typing.proofs.Growing.{Grows}
use Rattle.alg_typing.proofs.GrowingTerms.{range_same}
use Rattle.alg_printer.specs.Monomials.{IsAtomOf}
use Rattle.alg_printer.proofs.Leaves.{AreAtoms, equation_has}
use Rattle.alg_reading_back.proofs.Closed.{IsClosed}
use Rattle.alg_reading_back.proofs.Fronts.{front, goals_in, hyps_in, grows, next}
use Rattle.alg_reading_back.proofs.GoalsBack.{range, uses_range}
use Rattle.alg_reading_back.proofs.NextLists.{next_item}
use Rattle.alg_reading_back.proofs.Steps.{count_with}
use Rattle.alg_reading_back.proofs.UsedBefore.{AreInRange, equation_low}
use Rattle.alg_reading_back.proofs.UsesBack.{IsUseInRange}

-- ---- one more statement

-- a front is no longer than the next one
longer : {X : Type 0} (f : Statement → List ℕ) (xs : List X) (before : List Statement) (s : Statement) →
    length (take (length (flat_map f before)) xs) ≤ length (take (length (flat_map f (before ++ s ∷ []))) xs)
longer f xs before s =
    omega (
      arith,
      length-take (length (flat_map f before)) xs,
      length-take (length (flat_map f (before ++ s ∷ []))) xs,
      count_with f before s,
    )

-- the next front has the members of the front, at the same numbers
pub grows_on : (file : File) (before : List Statement) (s : Statement) →
    Grows (front file before) (front file (before ++ s ∷ []))
grows_on file before s =
    let old = grows file before in
    let new = grows file (before ++ s ∷ []) in
    let sorts = longer (λ s. (declared_by s).sorts) file.sorts before s in
    let homs = longer (λ s. (declared_by s).homs) file.homs before s in
    let vars = longer (λ s. (declared_by s).vars) file.vars before s in
    let hyps = longer (λ s. (declared_by s).hyps) file.hyps before s in
    let goals = longer (λ s. (declared_by s).goals) file.goals before s in
    record {
      sorts = λ k low. sym (new.sorts k (omega (arith, low, sorts))) ∙ old.sorts k low;
      homs = λ k low. sym (new.homs k (omega (arith, low, homs))) ∙ old.homs k low;
      vars = λ k low. sym (new.vars k (omega (arith, low, vars))) ∙ old.vars k low;
      hyps = λ k low. sym (new.hyps k (omega (arith, low, hyps))) ∙ old.hyps k low;
      goals = λ k low. sym (new.goals k (omega (arith, low, goals))) ∙ old.goals k low;
      more_sorts = sorts;
      more_homs = homs;
      more_vars = vars;
      more_hyps = hyps;
    }

-- what is in range in a front is so in the next one
pub range_on : (file : File) (before : List Statement) (s : Statement) (e : Equation) →
    AreInRange (front file before) e → AreInRange (front file (before ++ s ∷ [])) e
range_on file before s e is =
    let more = grows_on file before s in
    let g = front file before in
    let next = front file (before ++ s ∷ []) in
    record { left = range_same g next more e.left is.left; right = range_same g next more e.right is.right }

-- ---- the hypotheses of a front

-- their sides are in range there
abbrev pub AreHypsNamed : File → List Statement → Type 0
AreHypsNamed file before = (h : ℕ) → h < hyps_in before → AreInRange (front file before) (hyp_at file h).equation

pub nothing_named : (file : File) → AreHypsNamed file []
nothing_named file h low = absurd (omega arith)

module _ (file : File) (valid : IsValid file) (before after : List Statement) where
  -- a statement without hypotheses adds none
  no_new : (s : Statement) → length (declared_by s).hyps ≡ 0 → (h : ℕ) → hyps_in before ≤ h →
      h < hyps_in (before ++ s ∷ []) → ⊥
  no_new s none h high low = let count = count_with (λ s. (declared_by s).hyps) before s in omega
      (arith, count, none, high, low)

  new_named : (s : Statement) → file.order ≡ before ++ (s ∷ after) → (h : ℕ) → hyps_in before ≤ h →
      h < hyps_in (before ++ s ∷ []) → AreInRange (front file before) (hyp_at file h).equation
  new_named (statement.Sort k) split h high low = absurd (no_new (statement.Sort k) refl h high low)
  new_named (statement.Hom f) split h high low = absurd (no_new (statement.Hom f) refl h high low)
  new_named (statement.Vars first count) split h high low = absurd (no_new (statement.Vars first count) refl h high low)
  new_named (statement.Hyp k) split h high low =
      let s = statement.Hyp k in
      let e = (hyp_at file k).equation in
      let used = valid.ordered.earlier before after s split in
      let item = next_item (λ s. (declared_by s).hyps) file.hyps no_hyp before s k
      (next file valid.ordered before after s split).hyps refl in
      let count = count_with (λ s. (declared_by s).hyps) before s in
      let same : k ≡ h = omega (arith, item.here, count, high, low) in
      subst (λ h. AreInRange (front file before) (hyp_at file h).equation) same
      (equation_low file valid before after s split e used.vars used.homs)
  new_named (statement.Goal i) split h high low = absurd (no_new (statement.Goal i) refl h high low)

  pub named_next : (s : Statement) → file.order ≡ before ++ (s ∷ after) → AreHypsNamed file before →
      AreHypsNamed file (before ++ s ∷ [])
  named_next s split named h low =
      let e = (hyp_at file h).equation in
      elim (cases_lt h (hyps_in before)) [
        | inl below ↦ range_on file before s e (named h below)
        | inr high ↦ range_on file before s e (new_named s split h high low)
      ]

-- ---- atoms

some_have : (g : File) (few : Bool) (atoms : List Atom) → AreAtoms g atoms → AreAtoms g (if few then atoms else [])
some_have g true atoms all = all
some_have g false atoms all = All-nil (IsAtomOf g)

once_have : (g : File) (atoms : List Atom) → AreAtoms g atoms → AreAtoms g (each_once atom_eq atoms)
once_have g [] all = all
once_have g (a ∷ atoms) all =
    All-cons (IsAtomOf g) a _ (All-head (IsAtomOf g) a atoms all)
    (All-filter _ (IsAtomOf g) (each_once atom_eq atoms) (once_have g atoms (All-tail (IsAtomOf g) a atoms all)))

-- the leaves of uses that are in range in a front of the file
module _ (g file : File) (grows : Grows g file) where
  hyp_leaves : (f : File) (u : Use) → u.hyp < length f.hyps →
      use_leaves f u ≡ equation_leaves u.path (hyp_at f u.hyp).equation
  hyp_leaves f u low =
      use_leaves-at f u (hyp_at f u.hyp) low (get_or_default f.hyps u.hyp no_hyp (hyp_at f u.hyp) low)

  uses_same : (uses : List Use) → AllByRecursion (IsUseInRange g) uses →
      flat_map (use_leaves g) uses ≡ flat_map (use_leaves file) uses
  uses_same [] all = refl
  uses_same (u ∷ uses) all =
      let low = all.0.hyp in
      let here : use_leaves g u ≡ use_leaves file u =
      hyp_leaves g u low
      ∙ ap (λ (hyp : Hyp). equation_leaves u.path hyp.equation) (sym (grows.hyps u.hyp low))
      ∙ sym (hyp_leaves file u (omega (arith, low, grows.more_hyps))) in
      ap (λ ls. ls ++ flat_map (use_leaves g) uses) here
      ∙ ap (λ ls. use_leaves file u ++ ls) (uses_same uses all.1)

  uses_have : ((h : ℕ) → h < length g.hyps → AreInRange g (hyp_at file h).equation) → (uses : List Use) →
      AllByRecursion (IsUseInRange g) uses → AreAtoms g (flat_map (use_leaves g) uses)
  uses_have named [] all = All-nil (IsAtomOf g)
  uses_have named (u ∷ uses) all =
      let low = all.0.hyp in
      let e = (hyp_at g u.hyp).equation in
      let there = subst (λ (hyp : Hyp). AreInRange g hyp.equation) (grows.hyps u.hyp low) (named u.hyp low) in
      All-append (IsAtomOf g) (use_leaves g u) (flat_map (use_leaves g) uses)
      (subst (AreAtoms g) (sym (hyp_leaves g u low)) (equation_has g u.path e all.0.path (there.left, there.right)))
      (uses_have named uses all.1)

-- the last of a list
last_is : {X : Type 0} (xs : List X) (x d : X) → slice_index_or (xs ++ x ∷ []) (length (xs ++ x ∷ []) - 1) d ≡ x
last_is xs x d =
    let long = length-append xs (x ∷ []) in
    let place : length (xs ++ x ∷ []) - 1 ≡ length xs = omega (arith, long) in
    ap (λ n. slice_index_or (xs ++ x ∷ []) n d) place ∙ get_or-append_seam xs x [] d

-- ---- the table of a goal

module _ (file : File) (valid : IsValid file) (before after : List Statement) (i : ℕ)
    (split : file.order ≡ before ++ (statement.Goal i ∷ after)) (low : i < length file.goals)
    (closed : IsClosed (front file before)) (named : AreHypsNamed file before) where
  abbrev further : List Statement
  further = before ++ statement.Goal i ∷ []

  abbrev g : File
  g = front file further

  abbrev goal : Goal
  goal = goal_at file i

  uses_there : AllByRecursion (IsUseInRange g) (uses_of goal.method)
  uses_there =
      let more = grows_on file before (statement.Goal i) in
      let old = front file before in
      recursion_from_All (IsUseInRange g) (uses_of goal.method)
      (All-weaker (IsUseInRange old) (IsUseInRange g) (λ u r. record {
        hyp = omega (arith, r.hyp, more.more_hyps);
        path = All-weaker (λ f. f < length old.homs) (λ f. f < length g.homs)
            (λ f there. omega (arith, there, more.more_homs)) u.path r.path;
      }) (uses_of goal.method) (uses_range file valid before after i split low closed))

  pub table_there : goal_atoms g goal ≡ goal_atoms file goal
  table_there =
      ap (λ ls. if nat_le (length (each_once atom_eq (equation_leaves [] goal.equation ++ ls))) MAX_ATOMS
      then each_once atom_eq (equation_leaves [] goal.equation ++ ls) else [])
      (uses_same g file (grows file further) (uses_of goal.method) uses_there)

  pub atoms_there : AreAtoms g (goal_atoms file goal)
  atoms_there =
      let e = goal.equation in
      let uses = uses_of goal.method in
      let sides = range_on file before (statement.Goal i) e (range file valid before after i split low closed) in
      let hyps = named_next file valid before after (statement.Goal i) split named in
      let hyps_there : (h : ℕ) → h < length g.hyps → AreInRange g (hyp_at file h).equation =
      λ h below. hyps h (omega (arith, below, length-take (hyps_in further) file.hyps)) in
      subst (AreAtoms g) table_there
      (some_have g (nat_le (length (table g e uses)) MAX_ATOMS) (table g e uses)
      (once_have g (equation_leaves [] e ++ flat_map (use_leaves g) uses)
      (All-append (IsAtomOf g) (equation_leaves [] e) (flat_map (use_leaves g) uses)
      (equation_has g [] e (All-nil (λ f. f < length g.homs)) (sides.left, sides.right))
      (uses_have g file (grows file further) hyps_there uses uses_there))))

  pub goal_is_last : last_goal g ≡ goal
  goal_is_last =
      let item = next_item (λ s. (declared_by s).goals) file.goals no_goal before (statement.Goal i) i
      (next file valid.ordered before after (statement.Goal i) split).goals refl in
      subst (λ gs. slice_index_or gs (length gs - 1) no_goal ≡ goal) item.items
      (last_is (take (goals_in before) file.goals) goal no_goal)
