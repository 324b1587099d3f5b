-- Conditions in words.
use Rattle.std.specs.Prelude.{◌≡◌, ◌≢◌, ◌⊎◌, true, false, List, ◌++◌, All, AllPairs, Contains}
use Rattle.alg_terms.specs.declared.file.File.{File}
use Rattle.alg_terms.specs.declared.goals.Equation.{Equation}
use Rattle.alg_terms.specs.declared.term.Term.{Term}
use Rattle.alg_terms.specs.Members.{sort_at}
use Rattle.alg_meaning.specs.Conditions.{denominators, is_dropped, conditions_of}

-- the denominators of both sides, and those that need no condition
abbrev pub denominators_of : Equation → List Term
denominators_of e = denominators e.left ++ denominators e.right

-- the conditions of an equation are its denominators but the dropped ones, each tree once
pub record AreItsConditions (file : File) (e : Equation) : Type 0 where
  pub only : All (Contains (denominators_of e)) (conditions_of file e)
  pub kept : All (λ t. is_dropped (sort_at file e.sort).char0 t ≡ false) (conditions_of file e)
  pub all : All (λ t. (is_dropped (sort_at file e.sort).char0 t ≡ true) ⊎ Contains (conditions_of file e) t)
      (denominators_of e)
  pub once : AllPairs (λ t later. t ≢ later) (conditions_of file e)

-- the computed conditions are those in words
abbrev pub ConditionsSay : Type 0
ConditionsSay = (file : File) (e : Equation) → AreItsConditions file e
