-- The small file is valid.
use Rattle.std.proofs.Common.{◌≡◌, ◌<◌, ◌+◌, ℕ, List, [], ◌∷◌, refl, arith, rules, lit<, lit≤, ap, ◌∙◌}
use Rattle.std.specs.List.{AllByRecursion}
use Rattle.std.specs.Prelude.{Contains, pos}
use Rattle.std.proofs.lemmas.List.Elements.{All-from_recursion, All-nil}
use Rattle.alg_terms.specs.Nodes.{fold_term, EachNode}
use Rattle.alg_terms.specs.declared.file.Statement.{Statement}
use Rattle.alg_terms.specs.Kinds.{IsField}
use Rattle.alg_terms.specs.Members.{kind_of, target_of, sort_of_var}
use Rattle.alg_terms.specs.Order.{IsOrdered, Members, AreAmong, used_by, declared_by_all, IsOneSorted}
use Rattle.alg_terms.specs.SmallFile.{small, square_is_four, inverse_is_itself, image_of_square}
use Rattle.alg_terms.specs.Sorts.{EachNodeAt}
use Rattle.alg_terms.specs.declared.term.Term.TheVariants.{Int}
use Rattle.alg_terms.specs.TermRules.{IsTerm}
use Rattle.alg_terms.specs.GoalRules.{IsEquation, IsHyp, IsGoal, IsUse}
use Rattle.alg_terms.specs.Valid.{IsValid, HasCounts, IsSort, IsHom, IsVar}
use Rattle.alg_terms.proofs.SmallNames.{spelled, distinct}
use Rattle.alg_terms.proofs.Splits.{EachSplit, each_split}

counts : HasCounts small
counts = record { sorts = lit< tt; homs = lit< tt; vars = lit< tt; hyps = lit< tt; goals = lit< tt; order = lit< tt }

-- the literal 4
four : IsTerm small (Int (pos 4))
unfolding fold_term EachNode
four = record {
  indices = search rules;
  literals = search rules;
  exponents = search rules;
  depth = search rules;
  parts = search rules;
  arguments = search rules;
}

square : IsEquation small square_is_four.equation
unfolding fold_term EachNode
    Rattle.alg_terms.specs.declared.term.Term.TheBlock.hidden-the_row-Term-0 denote.Hole.Carrier.hidden
square = record {
  left = record {
    indices = search rules;
    literals = search rules;
    exponents = search rules;
    depth = search rules;
    parts = search rules;
    arguments = search rules;
  };
  right = four;
  sides = search rules;
  sort = refl;
}

inverse : IsEquation small inverse_is_itself.equation
unfolding fold_term EachNode
    Rattle.alg_terms.specs.declared.term.Term.TheBlock.hidden-the_row-Term-0 denote.Hole.Carrier.hidden
inverse = record {
  left = record {
    indices = search rules;
    literals = search rules;
    exponents = search rules;
    depth = search rules;
    parts = search rules;
    arguments = search rules;
  };
  right = record {
    indices = search rules;
    literals = search rules;
    exponents = search rules;
    depth = search rules;
    parts = search rules;
    arguments = search rules;
  };
  sides = search rules;
  sort = refl;
}

image : IsEquation small image_of_square.equation
unfolding fold_term EachNode
    Rattle.alg_terms.specs.declared.term.Term.TheBlock.hidden-the_row-Term-0 denote.Hole.Carrier.hidden
image = record {
  left = record {
    indices = search rules;
    literals = search rules;
    exponents = search rules;
    depth = search rules;
    parts = search rules;
    arguments = search rules;
  };
  right = four;
  sides = search rules;
  sort = refl;
}

hyp : IsHyp small square_is_four
unfolding fold_term EachNode
    Rattle.alg_terms.specs.declared.term.Term.TheBlock.hidden-the_row-Term-0 denote.Hole.Carrier.hidden
hyp = record { equation = square; divides_nowhere = search rules }

abbrev IsFieldTarget : ℕ → Type 0
IsFieldTarget f = IsField (kind_of small (target_of small f))

by_field : IsGoal small inverse_is_itself
unfolding EachNodeAt
    Rattle.alg_terms.specs.declared.term.Term.TheBlock.hidden-the_row-Term-0 denote.Hole.Carrier.hidden
by_field = record {
  equation = inverse;
  method = record { field = tt; left = ((tt, All-nil IsFieldTarget), tt, tt); right = tt };
}

used : IsUse small 1 (record { path = 0 ∷ []; hyp = 0 })
used = record { hyp = lit< tt; path = search rules; sorts = (refl, refl); nonzero = λ h. cc }

by_nsatz : IsGoal small image_of_square
unfolding EachNode Rattle.alg_terms.specs.declared.term.Term.TheBlock.hidden-the_row-Term-0 denote.Hole.Carrier.hidden
by_nsatz = record {
  equation = image;
  method = record {
    domain = tt;
    divides_nowhere = search rules;
    each_use = All-from_recursion (IsUse small 1) (record { path = 0 ∷ []; hyp = 0 } ∷ []) (used, tt);
    few_uses = lit≤ tt;
    power_low = lit≤ tt;
    power_high = lit≤ tt;
    limit_high = lit≤ tt;
  };
}

one_var : (first : ℕ) → sort_of_var small (first + 0) ≡ sort_of_var small first → (k : ℕ) → k < 1 →
    sort_of_var small (first + k) ≡ sort_of_var small first
one_var first is k below = let none : k ≡ 0 = omega arith in ap (λ w. sort_of_var small (first + w)) none ∙ is

-- members that are among others, each by its place there
made : (members others : Members) → AllByRecursion (Contains others.sorts) members.sorts →
    AllByRecursion (Contains others.homs) members.homs → AllByRecursion (Contains others.vars) members.vars →
    AllByRecursion (Contains others.hyps) members.hyps → AreAmong members others
made members others sorts homs vars hyps = record {
  sorts = All-from_recursion (Contains others.sorts) members.sorts sorts;
  homs = All-from_recursion (Contains others.homs) members.homs homs;
  vars = All-from_recursion (Contains others.vars) members.vars vars;
  hyps = All-from_recursion (Contains others.hyps) members.hyps hyps;
}

abbrev UsesEarlier : List Statement → Statement → Type 0
UsesEarlier before s = AreAmong (used_by small s) (declared_by_all before)

earlier : EachSplit UsesEarlier [] small.order
unfolding fold_term
    Rattle.alg_terms.specs.declared.term.Term.TheBlock.hidden-the_row-Term-0 denote.Hole.Carrier.hidden
earlier = (
  made _ _ tt tt tt tt,
  (
    made _ _ tt tt tt tt,
    (
      made _ _ ((0, lit< tt, refl), ((1, lit< tt, refl), tt)) tt tt tt,
      (
        made _ _ ((0, lit< tt, refl), tt) tt tt tt,
        (
          made _ _ ((1, lit< tt, refl), tt) tt tt tt,
          (
            made _ _ tt tt ((0, lit< tt, refl), tt) tt,
            (
              made _ _ tt tt ((1, lit< tt, refl), ((1, lit< tt, refl), tt)) tt,
              (
                made _ _ tt ((0, lit< tt, refl), ((0, lit< tt, refl), tt)) ((0, lit< tt, refl), tt)
                    ((0, lit< tt, refl), tt),
                tt,
              ),
            ),
          ),
        ),
      ),
    ),
  ),
)

ordered : IsOrdered small
ordered = record {
  once_rising = refl;
  one_sorted = All-from_recursion (IsOneSorted small) small.order
      (tt, (tt, (tt, ((lit≤ tt, one_var 0 refl), ((lit≤ tt, one_var 1 refl), (tt, (tt, (tt, tt))))))));
  earlier = λ before after statement is. each_split UsesEarlier [] small.order before after statement earlier is;
}

pub small_is_valid : IsValid small
small_is_valid = record {
  counts = counts;
  spelled = spelled;
  distinct = distinct;
  sorts = All-from_recursion IsSort small.sorts (λ h. cc, (λ h. cc, tt));
  homs = All-from_recursion (IsHom small) small.homs (record { source = lit< tt; target = lit< tt }, tt);
  vars = All-from_recursion (IsVar small) small.vars (lit< tt, (lit< tt, tt));
  hyps = All-from_recursion (IsHyp small) small.hyps (hyp, tt);
  goals = All-from_recursion (IsGoal small) small.goals (by_field, (by_nsatz, tt));
  ordered = ordered;
}
