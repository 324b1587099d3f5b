-- Each goal of a loaded file is a goal of it.
use Rattle.std.proofs.Common.{◌≤◌, ◌<◌, ◌*◌, ℕ, true, false, refl, rules, arith}
use Rattle.std.specs.Prelude.{◌%◌, ◌==◌, if◌then◌else◌, pos, ◌≤ℤ◌}
use Rattle.std.proofs.lemmas.Int.{ints}
use Rattle.std.proofs.lemmas.List.Elements.{All-nil}
use Rattle.alg_terms.specs.declared.goals.Goal.{Goal}
use Rattle.alg_terms.specs.declared.goals.Method.TheVariants.{ByRing, ByField}
use Rattle.alg_terms.specs.declared.term.Term.{Term}
use Rattle.alg_terms.specs.GoalRules.{IsEquation, IsGoal}
use Rattle.alg_terms.specs.Kinds.{IsField}
use Rattle.alg_terms.specs.Limits.{MAX_LITERAL}
use Rattle.alg_terms.specs.Members.{kind_of, target_of}
use Rattle.alg_terms.specs.Nodes.{fold_term, EachNode}
use Rattle.alg_terms.specs.Sorts.{EachNodeAt}
use Rattle.alg_terms.specs.TermRules.{IsTerm}
use Rattle.alg_load.specs.Limits.{MAX_LOAD}
use Rattle.alg_load.specs.Loaded.{literal, square_of_sum, three_terms, two_terms, sum_of_quotients, goal_by, goal_of, loaded}

-- the three goals that take turns
abbrev pub equal_goal : ℕ → Goal
equal_goal i = goal_by ByRing (square_of_sum i) (three_terms i)

abbrev pub unequal_goal : ℕ → Goal
unequal_goal i = goal_by ByRing (square_of_sum i) (two_terms i)

abbrev pub field_goal : ℕ → Goal
field_goal i = goal_by ByField (sum_of_quotients i) (literal 1)

-- what holds of the three holds of the one whose turn it is
pub each_turn : (P : Goal → Type 0) (i : ℕ) → P (equal_goal i) → P (unequal_goal i) → P (field_goal i) → P (goal_of i)
each_turn P i equal unequal field =
    let later = if (i % 3) == 1 then unequal_goal i else field_goal i in
    elim ((i % 3) == 0) as (λ v. P (if v then equal_goal i else later)) [
      | true ↦ equal
      | false ↦
          elim ((i % 3) == 1) as (λ v. P (if v then unequal_goal i else field_goal i)) [
            | true ↦ unequal
            | false ↦ field
          ]
    ]

-- a number that may be a literal
abbrev IsLiteral : ℕ → Type 0
IsLiteral m = (pos 0 ≤ℤ pos m) × (pos m ≤ℤ MAX_LITERAL)

small_literal : (m : ℕ) → m ≤ MAX_LOAD * MAX_LOAD → IsLiteral m
small_literal m small = (omega (arith, ints), omega (arith, ints))

square_below : (i : ℕ) → i < MAX_LOAD → i * i ≤ MAX_LOAD * MAX_LOAD
square_below i low = grind arith

module _ (n i : ℕ) where
  sum_squared_is_term : IsLiteral i → IsTerm (loaded n) (square_of_sum i)
  unfolding fold_term EachNode
      Rattle.alg_terms.specs.declared.term.Term.TheBlock.hidden-the_row-Term-0 denote.Hole.Carrier.hidden
  sum_squared_is_term once = record {
    indices = search rules;
    literals = search rules;
    exponents = search rules;
    depth = search rules;
    parts = search rules;
    arguments = search rules;
  }

  three_terms_are_term : IsLiteral (2 * i) → IsLiteral (i * i) → IsTerm (loaded n) (three_terms i)
  unfolding fold_term EachNode
      Rattle.alg_terms.specs.declared.term.Term.TheBlock.hidden-the_row-Term-0 denote.Hole.Carrier.hidden
  three_terms_are_term twice squared = record {
    indices = search rules;
    literals = search rules;
    exponents = search rules;
    depth = search rules;
    parts = search rules;
    arguments = search rules;
  }

  two_terms_are_term : IsLiteral (i * i) → IsTerm (loaded n) (two_terms i)
  unfolding fold_term EachNode
      Rattle.alg_terms.specs.declared.term.Term.TheBlock.hidden-the_row-Term-0 denote.Hole.Carrier.hidden
  two_terms_are_term squared = record {
    indices = search rules;
    literals = search rules;
    exponents = search rules;
    depth = search rules;
    parts = search rules;
    arguments = search rules;
  }

  quotients_are_term : IsLiteral i → IsTerm (loaded n) (sum_of_quotients i)
  unfolding fold_term EachNode
      Rattle.alg_terms.specs.declared.term.Term.TheBlock.hidden-the_row-Term-0 denote.Hole.Carrier.hidden
  quotients_are_term once = record {
    indices = search rules;
    literals = search rules;
    exponents = search rules;
    depth = search rules;
    parts = search rules;
    arguments = search rules;
  }

  one_is_term : IsLiteral 1 → IsTerm (loaded n) (literal 1)
  unfolding fold_term EachNode
  one_is_term one = record {
    indices = search rules;
    literals = search rules;
    exponents = search rules;
    depth = search rules;
    parts = search rules;
    arguments = search rules;
  }

  equal_is_goal : IsLiteral i → IsLiteral (2 * i) → IsLiteral (i * i) → IsGoal (loaded n) (equal_goal i)
  unfolding fold_term EachNode
      Rattle.alg_terms.specs.declared.term.Term.TheBlock.hidden-the_row-Term-0 denote.Hole.Carrier.hidden
  equal_is_goal once twice squared = record {
    equation = record {
      left = sum_squared_is_term once;
      right = three_terms_are_term twice squared;
      sides = search rules;
      sort = refl;
    };
    method = search rules;
  }

  unequal_is_goal : IsLiteral i → IsLiteral (i * i) → IsGoal (loaded n) (unequal_goal i)
  unfolding fold_term EachNode
      Rattle.alg_terms.specs.declared.term.Term.TheBlock.hidden-the_row-Term-0 denote.Hole.Carrier.hidden
  unequal_is_goal once squared = record {
    equation = record {
      left = sum_squared_is_term once;
      right = two_terms_are_term squared;
      sides = search rules;
      sort = refl;
    };
    method = search rules;
  }

  quotients_are_equation : IsLiteral i → IsLiteral 1 → IsEquation (loaded n) (field_goal i).equation
  unfolding fold_term EachNode
      Rattle.alg_terms.specs.declared.term.Term.TheBlock.hidden-the_row-Term-0 denote.Hole.Carrier.hidden
  quotients_are_equation once one = record {
    left = quotients_are_term once;
    right = one_is_term one;
    sides = search rules;
    sort = refl;
  }

  abbrev IsFieldTarget : ℕ → Type 0
  IsFieldTarget f = IsField (kind_of (loaded n) (target_of (loaded n) f))

  field_is_goal : IsLiteral i → IsLiteral 1 → IsGoal (loaded n) (field_goal i)
  unfolding EachNodeAt
      Rattle.alg_terms.specs.declared.term.Term.TheBlock.hidden-the_row-Term-0 denote.Hole.Carrier.hidden
  field_is_goal once one = record {
    equation = quotients_are_equation once one;
    method = record {
      field = tt;
      left = (
        tt,
        ((tt, All-nil IsFieldTarget), tt, (tt, tt, tt)),
        ((tt, All-nil IsFieldTarget), tt, (tt, tt, tt)),
      );
      right = tt;
    };
  }

-- the goal of each number below the limit is a goal of each loaded file
pub is_goal : (n i : ℕ) → i < MAX_LOAD → IsGoal (loaded n) (goal_of i)
is_goal n i low =
    let once = small_literal i (omega arith) in
    let twice = small_literal (2 * i) (omega arith) in
    let squared = small_literal (i * i) (square_below i low) in
    let one = small_literal 1 (omega arith) in
    each_turn (IsGoal (loaded n)) i (equal_is_goal n i once twice squared) (unequal_is_goal n i once squared)
    (field_is_goal n i once one)
