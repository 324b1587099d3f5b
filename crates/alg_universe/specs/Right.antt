-- What holds in a universe at values of the variables, and when a goal is right.
use Rattle.std.specs.Prelude.{◌≡◌, ◌≢◌, ℕ, Bool, true, false, List, All, ℤ}
use Rattle.alg_terms.specs.declared.file.File.{File}
use Rattle.alg_terms.specs.declared.goals.Equation.{Equation}
use Rattle.alg_terms.specs.declared.goals.Hyp.{Hyp}
use Rattle.alg_terms.specs.declared.goals.Use.{Use}
use Rattle.alg_terms.specs.declared.term.Term.{Term}
use Rattle.alg_terms.specs.Members.{hyp_at, goal_at, uses_of}
use Rattle.alg_terms.specs.Sorts.{sort_beside}
use Rattle.alg_universe.specs.declared.universe.Universe.{Ghosts}
use Rattle.alg_universe.specs.Value.{Fits, AreValues, number, value}

-- what a hypothesis says of its sides: they are different where it is a `<>`, else equal
abbrev pub Compare : {E : Type 0} → Bool → E → E → Type 0
Compare true x y = x ≢ y
Compare false x y = x ≡ y

module _ {E : Type 0} (u : Ghosts E) where
  -- the two sides have equal values in the equation's sort
  abbrev pub Holds : File → List E → Equation → Type 0
  Holds file v e = value u file v e.sort e.left ≡ value u file v e.sort e.right

  -- the two sides of a hypothesis have equal values in its own sort, or different ones where it is a `<>`
  abbrev pub HypHolds : File → List E → Hyp → Type 0
  HypHolds file v hyp =
      let e = hyp.equation in
      Compare hyp.nonzero (value u file v e.sort e.left) (value u file v e.sort e.right)

  -- a use holds where its hypothesis does
  abbrev pub UseHolds : File → List E → Use → Type 0
  UseHolds file v used = HypHolds file v (hyp_at file used.hyp)

  -- the value of a condition isn't zero, in its own sort or else in the goal's
  abbrev pub ConditionHolds : File → List E → ℕ → Term → Type 0
  ConditionHolds file v goal_sort t =
      let s = sort_beside file goal_sort t in
      value u file v s t ≢ u.zero s

  -- the sum of n ones isn't zero
  abbrev pub ConstantHolds : ℕ → ℤ → Type 0
  ConstantHolds s n = number u s n ≢ u.zero s

  -- goal i is right: wherever the universe fits the file, at all values at which the used hypotheses, the conditions
  -- and the constants hold, its two sides have equal values
  abbrev pub IsRight : File → ℕ → List Term → List ℤ → Type 0
  IsRight file i conditions constants =
      let goal = goal_at file i in
      Fits u file → (v : List E) → AreValues u file v → All (UseHolds file v) (uses_of goal.method) →
      All (ConditionHolds file v goal.equation.sort) conditions → All (ConstantHolds goal.equation.sort) constants →
      Holds file v goal.equation
