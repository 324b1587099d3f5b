-- The statements of a loaded file stand in an order in which they can be read.
use Rattle.std.proofs.Common.{◌≡◌, ◌<◌, ◌+◌, ℕ, zero, suc, List, [], ◌∷◌, ◌++◌, map, refl, sym, subst, ap, ◌∙◌, arith, lit<, lit≤}
use Rattle.std.specs.Prelude.{All, Contains}
use Rattle.std.specs.List.{AllByRecursion, flat_map, range_with_len}
use Rattle.std.proofs.lemmas.List.Elements.{All-from_recursion, All-nil, All-cons, All-map}
use Rattle.std.proofs.lemmas.List.FromFn.{length-map-range_with_len, get_or-map-range_with_len}
use Rattle.alg_terms.specs.declared.file.Statement.{Statement}
use Rattle.alg_terms.specs.declared.file.Statement.TheVariants as statement
use Rattle.alg_terms.specs.declared.goals.Goal.{Goal}
use Rattle.alg_terms.specs.Members.{sort_of_var, goal_at, no_goal, uses_of}
use Rattle.alg_terms.specs.Nodes.{fold_term}
use Rattle.alg_terms.specs.Occurring.{vars_in, homs_in}
use Rattle.alg_terms.specs.Order.{numbers_from, Members, none, declared_by, used_by, AreAmong, declared_by_all, members_of, IsOneSorted, IsOrdered}
use Rattle.alg_terms.proofs.Splits.{EachSplit, each_split}
use Rattle.alg_load.specs.Loaded.{goal_of, numbers, loaded}
use Rattle.alg_load.proofs.EachGoal.{equal_goal, unequal_goal, field_goal, each_turn}

-- ---- each member once, rising

-- of what goals don't declare they declare nothing
nothing : (f : Statement → List ℕ) → ((i : ℕ) → f (statement.Goal i) ≡ []) → (is : List ℕ) →
    flat_map f (map statement.Goal is) ≡ []
nothing f none_of [] = refl
nothing f none_of (i ∷ is) = ap (λ w. w ++ flat_map f (map statement.Goal is)) (none_of i) ∙ nothing f none_of is

-- they declare themselves
themselves : (first count : ℕ) →
    flat_map (λ s. (declared_by s).goals) (map statement.Goal (range_with_len first count)) ≡ numbers_from first count
themselves first zero = refl
themselves first (suc count) =
    let next : first + 1 ≡ suc first = omega arith in
    ap (λ w. first ∷ w) (themselves (first + 1) count ∙ ap (λ f. numbers_from f count) next)

once_rising : (n : ℕ) → declared_by_all (loaded n).order ≡ members_of (loaded n)
once_rising n =
    let sorts = nothing (λ s. (declared_by s).sorts) (λ i. refl) (numbers n) in
    let homs = nothing (λ s. (declared_by s).homs) (λ i. refl) (numbers n) in
    let vars = nothing (λ s. (declared_by s).vars) (λ i. refl) (numbers n) in
    let hyps = nothing (λ s. (declared_by s).hyps) (λ i. refl) (numbers n) in
    let goals = themselves 0 n ∙ ap (numbers_from 0) (sym (length-map-range_with_len goal_of 0 n)) in
    λ i. record { sorts = 0 ∷ sorts i; homs = homs i; vars = 0 ∷ 1 ∷ vars i; hyps = hyps i; goals = goals i }

-- ---- one sort

two_vars : (n k : ℕ) → k < 2 → sort_of_var (loaded n) (0 + k) ≡ sort_of_var (loaded n) 0
two_vars n zero low = refl
two_vars n (suc zero) low = refl
two_vars n (suc (suc k)) low = absurd (omega arith)

one_sorted : (n : ℕ) → All (IsOneSorted (loaded n)) (loaded n).order
one_sorted n =
    let P = IsOneSorted (loaded n) in
    let goals = map statement.Goal (numbers n) in
    All-cons P (statement.Sort 0) (statement.Vars 0 2 ∷ goals) tt
    (All-cons P (statement.Vars 0 2) goals (lit≤ tt, two_vars n) (All-map P statement.Goal (numbers n) (λ k d low. tt)))

-- ---- only what is declared before

-- what a goal uses is among these members
abbrev UsesAmong : Members → Goal → Type 0
UsesAmong others goal =
    AreAmong (record none {
      homs = homs_in goal.equation ++ flat_map (λ used. used.path) (uses_of goal.method);
      vars = vars_in goal.equation;
      hyps = map (λ used. used.hyp) (uses_of goal.method);
    }) others

-- where variables alone are used, these are to be among the others
variables_used : (others : Members) (vars : List ℕ) → AllByRecursion (Contains others.vars) vars →
    AreAmong (record none { vars = vars }) others
variables_used others vars among = record {
  sorts = All-nil (Contains others.sorts);
  homs = All-nil (Contains others.homs);
  vars = All-from_recursion (Contains others.vars) vars among;
  hyps = All-nil (Contains others.hyps);
}

module _ (others : Members) (x : Contains others.vars 0) (y : Contains others.vars 1) where
  equal_uses : (i : ℕ) → UsesAmong others (equal_goal i)
  unfolding fold_term
      Rattle.alg_terms.specs.declared.term.Term.TheBlock.hidden-the_row-Term-0 denote.Hole.Carrier.hidden
  equal_uses i = variables_used others (0 ∷ 1 ∷ 0 ∷ 0 ∷ 1 ∷ 1 ∷ []) (x, (y, (x, (x, (y, (y, tt))))))

  unequal_uses : (i : ℕ) → UsesAmong others (unequal_goal i)
  unfolding fold_term
      Rattle.alg_terms.specs.declared.term.Term.TheBlock.hidden-the_row-Term-0 denote.Hole.Carrier.hidden
  unequal_uses i = variables_used others (0 ∷ 1 ∷ 0 ∷ 1 ∷ []) (x, (y, (x, (y, tt))))

  field_uses : (i : ℕ) → UsesAmong others (field_goal i)
  unfolding fold_term
      Rattle.alg_terms.specs.declared.term.Term.TheBlock.hidden-the_row-Term-0 denote.Hole.Carrier.hidden
  field_uses i = variables_used others (0 ∷ 0 ∷ 0 ∷ []) (x, (x, (x, tt)))

  goal_uses : (i : ℕ) → UsesAmong others (goal_of i)
  goal_uses i = each_turn (UsesAmong others) i (equal_uses i) (unequal_uses i) (field_uses i)

-- the statement uses only what these declare
abbrev UsesEarlier : ℕ → List Statement → Statement → Type 0
UsesEarlier n before s = AreAmong (used_by (loaded n) s) (declared_by_all before)

goal_uses_earlier : (n i : ℕ) → i < n → (more : List Statement) →
    UsesEarlier n (statement.Sort 0 ∷ statement.Vars 0 2 ∷ more) (statement.Goal i)
goal_uses_earlier n i low more =
    let before = declared_by_all (statement.Sort 0 ∷ statement.Vars 0 2 ∷ more) in
    let there : goal_at (loaded n) i ≡ goal_of i =
    get_or-map-range_with_len goal_of 0 n i i no_goal low (omega arith) in
    subst (UsesAmong before) (sym there) (goal_uses before (0, omega arith, refl) (1, omega arith, refl) i)

goals_use_earlier : (n first count : ℕ) → first + count ≡ n → (more : List Statement) →
    EachSplit (UsesEarlier n) (statement.Sort 0 ∷ statement.Vars 0 2 ∷ more)
    (map statement.Goal (range_with_len first count))
goals_use_earlier n first zero is more = tt
goals_use_earlier n first (suc count) is more = (
  goal_uses_earlier n first (omega arith) more,
  goals_use_earlier n (first + 1) count (omega arith) (more ++ (statement.Goal first ∷ [])),
)

the_field_used : (n : ℕ) → UsesEarlier n (statement.Sort 0 ∷ []) (statement.Vars 0 2)
the_field_used n = record {
  sorts = All-from_recursion (Contains (0 ∷ [])) (0 ∷ 0 ∷ []) ((0, lit< tt, refl), ((0, lit< tt, refl), tt));
  homs = All-nil (Contains []);
  vars = All-nil (Contains []);
  hyps = All-nil (Contains []);
}

earlier : (n : ℕ) → EachSplit (UsesEarlier n) [] (loaded n).order
earlier n = (
  variables_used (declared_by_all []) [] tt,
  (the_field_used n, goals_use_earlier n 0 n (omega arith) []),
)

pub ordered : (n : ℕ) → IsOrdered (loaded n)
ordered n = record {
  once_rising = once_rising n;
  one_sorted = one_sorted n;
  earlier = λ before after s is. each_split (UsesEarlier n) [] (loaded n).order before after s (earlier n) is;
}
