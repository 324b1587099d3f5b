-- The file that the answers are tried on is valid.
use Rattle.std.proofs.Common.{◌≡◌, ◌≢◌, ◌<◌, ◌+◌, ℕ, ℤ, List, [], ◌∷◌, refl, sym, subst, arith, rules, lit<, lit≤, ap}
use Rattle.std.specs.List.{AllByRecursion}
use Rattle.std.specs.Prelude.{All, AllPairs, Contains, pos, ◌≤ℤ◌}
use Rattle.std.proofs.lemmas.List.Elements.{All-from_recursion, All-nil, All-take}
use Rattle.std.proofs.lemmas.List.Kept.{AllPairs-cons}
use Rattle.alg_terms.specs.declared.file.File.{File}
use Rattle.alg_terms.specs.declared.file.Statement.{Statement}
use Rattle.alg_terms.specs.Limits.{MAX_LITERAL}
use Rattle.alg_terms.specs.declared.goals.Equation.{Equation}
use Rattle.alg_terms.specs.declared.goals.Method.{Method}
use Rattle.alg_terms.specs.declared.goals.Method.TheVariants.{ByRing}
use Rattle.alg_terms.specs.GoalRules.{DividesNowhere, IsGoal, IsUse, MayBeBy}
use Rattle.alg_terms.specs.Kinds.{IsDomain}
use Rattle.alg_terms.specs.Members.{kind_of, sort_of_var}
use Rattle.alg_terms.specs.Names.{IsName}
use Rattle.alg_terms.specs.Nodes.{fold_term}
use Rattle.alg_terms.specs.Order.{IsOrdered, Members, AreAmong, used_by, declared_by_all, IsOneSorted}
use Rattle.alg_terms.specs.SmallFile.{name, small}
use Rattle.alg_terms.specs.Valid.{IsValid, HasCounts, IsSort, IsHom, IsVar, names_of}
use Rattle.alg_terms.specs.GoalRules.{IsHyp}
use Rattle.alg_terms.proofs.SmallNames.{spelled}
use Rattle.alg_terms.proofs.Splits.{EachSplit, each_split}
use Rattle.alg_reify.proofs.TestTerms.{test_sides_are_equation}
use Rattle.alg_prover.specs.Examples.{by_nsatz, example_goal, example}

counts : HasCounts example
counts = record { sorts = lit< tt; homs = lit< tt; vars = lit< tt; hyps = lit< tt; goals = lit< tt; order = lit< tt }

-- the names are the first two of the small file
two_spelled : All IsName (names_of example)
two_spelled = All-take IsName 2 (names_of small) spelled

two_apart : AllPairs (λ first later. first ≢ later) (names_of example)
two_apart =
    AllPairs-cons (λ first later. first ≢ later) (name 0) (name 1 ∷ [])
    (All-from_recursion (λ later. name 0 ≢ later) (name 1 ∷ []) (λ h. cc, tt))
    (
    AllPairs-cons (λ first later. first ≢ later) (name 1) [] (All-nil (λ later. name 1 ≢ later))
    (λ i j d below within. absurd (omega arith))
    )

-- the goals are goals of the file
is_goal : (c d : ℤ) (method : Method) → (pos 0 ≤ℤ c) × (c ≤ℤ MAX_LITERAL) → (pos 0 ≤ℤ d) × (d ≤ℤ MAX_LITERAL) →
    ((e : Equation) → e.sort ≡ 0 → DividesNowhere e → MayBeBy example e method) →
    IsGoal example (example_goal c d method)
is_goal c d method small great may =
    let e =
    test_sides_are_equation example (pos 3) 2 c d (lit< tt) (search rules) (lit≤ tt) small great 0 _ _ refl refl refl in
    record { equation = e.0; method = may _ refl e.1 }

by_ring : (e : Equation) → e.sort ≡ 0 → DividesNowhere e → MayBeBy example e ByRing
by_ring e sort plain = plain

by_search : (e : Equation) → e.sort ≡ 0 → DividesNowhere e → MayBeBy example e by_nsatz
by_search e sort plain = record {
  domain = subst (λ s. IsDomain (kind_of example s)) (sym sort) tt;
  divides_nowhere = plain;
  each_use = All-nil (IsUse example e.sort);
  few_uses = lit≤ tt;
  power_low = lit≤ tt;
  power_high = lit≤ tt;
  limit_high = lit≤ tt;
}

-- members that are among others, each by its place there
made : (members others : Members) → AllByRecursion (Contains others.sorts) members.sorts →
    AllByRecursion (Contains others.homs) members.homs → AllByRecursion (Contains others.vars) members.vars →
    AllByRecursion (Contains others.hyps) members.hyps → AreAmong members others
made members others sorts homs vars hyps = record {
  sorts = All-from_recursion (Contains others.sorts) members.sorts sorts;
  homs = All-from_recursion (Contains others.homs) members.homs homs;
  vars = All-from_recursion (Contains others.vars) members.vars vars;
  hyps = All-from_recursion (Contains others.hyps) members.hyps hyps;
}

abbrev UsesEarlier : List Statement → Statement → Type 0
UsesEarlier before s = AreAmong (used_by example s) (declared_by_all before)

-- each side of a goal has the variable twice
earlier : EachSplit UsesEarlier [] example.order
unfolding fold_term
    Rattle.alg_terms.specs.declared.term.Term.TheBlock.hidden-the_row-Term-0 denote.Hole.Carrier.hidden
earlier = (
  made _ _ tt tt tt tt,
  (
    made _ _ ((0, lit< tt, refl), tt) tt tt tt,
    (
      made _ _ tt tt ((0, lit< tt, refl), ((0, lit< tt, refl), ((0, lit< tt, refl), ((0, lit< tt, refl), tt)))) tt,
      (
        made _ _ tt tt ((0, lit< tt, refl), ((0, lit< tt, refl), ((0, lit< tt, refl), ((0, lit< tt, refl), tt)))) tt,
        (
          made _ _ tt tt ((0, lit< tt, refl), ((0, lit< tt, refl), ((0, lit< tt, refl), ((0, lit< tt, refl), tt)))) tt,
          (
            made _ _ tt tt ((0, lit< tt, refl), ((0, lit< tt, refl), ((0, lit< tt, refl), ((0, lit< tt, refl), tt))))
                tt,
            tt,
          ),
        ),
      ),
    ),
  ),
)

one_var : (k : ℕ) → k < 1 → sort_of_var example (0 + k) ≡ sort_of_var example 0
one_var k below = let none : k ≡ 0 = omega arith in ap (λ w. sort_of_var example (0 + w)) none

ordered : IsOrdered example
ordered = record {
  once_rising = refl;
  one_sorted = All-from_recursion (IsOneSorted example) example.order (tt, ((lit≤ tt, one_var), (tt, (tt, (tt, (tt, tt))))));
  earlier = λ before after statement is. each_split UsesEarlier [] example.order before after statement earlier is;
}

example_is_valid : IsValid example
example_is_valid = record {
  counts = counts;
  spelled = two_spelled;
  distinct = two_apart;
  sorts = All-from_recursion IsSort example.sorts (λ h. cc, tt);
  homs = All-nil (IsHom example);
  vars = All-from_recursion (IsVar example) example.vars (lit< tt, tt);
  hyps = All-nil (IsHyp example);
  goals = All-from_recursion (IsGoal example) example.goals (
    is_goal (pos 5) (pos 5) ByRing (search rules) (search rules) by_ring,
    (
      is_goal (pos 5) (pos 6) ByRing (search rules) (search rules) by_ring,
      (
        is_goal (pos 5) (pos 5) by_nsatz (search rules) (search rules) by_search,
        (is_goal (pos 5) (pos 6) by_nsatz (search rules) (search rules) by_search, tt),
      ),
    ),
  );
  ordered = ordered;
}

-- what equals this file is valid
pub is_valid : (file : File) → file ≡ example → IsValid file
is_valid file is = subst IsValid (sym is) example_is_valid
