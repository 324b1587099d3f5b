-- What the conditions of a field goal give.
use Rattle.std.specs.Prelude.{◌≡◌, ◌≢◌, ℕ, List, All}
use Rattle.alg_terms.specs.declared.file.File.{File}
use Rattle.alg_terms.specs.declared.goals.Equation.{Equation}
use Rattle.alg_terms.specs.declared.term.Term.{Term}
use Rattle.alg_terms.specs.GoalRules.{IsEquation, IsByField}
use Rattle.alg_universe.specs.declared.universe.Universe.{Ghosts}
use Rattle.alg_universe.specs.Value.{Fits, AreValues, value, power}
use Rattle.alg_universe.specs.Right.{ConditionHolds, Holds}
use Rattle.alg_mono.specs.FiniteMaps.{total}
use Rattle.alg_meaning.specs.Factors.{Factors}
use Rattle.alg_meaning.specs.Fractions.{frac, cleared}
use Rattle.alg_meaning.specs.Conditions.{conditions_of}
use Rattle.alg_meaning.specs.Values.{poly_in}

module _ {E : Type 0} (u : Ghosts E) (file : File) (v : List E) (s : ℕ) where
  -- the value of a product of factors
  abbrev pub factors_in : Factors → E
  factors_in m = total (u.one s) (u.mul s) (λ q e. power u s (poly_in u v s q) e) m

  -- the value of a term times that of its fraction's factors is that of its numerator, and that of the factors isn't
  -- zero
  pub record IsItsFraction (t : Term) : Type 0 where
    pub equation : u.mul s (value u file v s t) (factors_in (frac t).below) ≡ poly_in u v s (frac t).top
    pub nonzero : factors_in (frac t).below ≢ u.zero s

module _ {E : Type 0} (u : Ghosts E) where
  -- where all conditions of a field goal hold, both sides are their fractions
  abbrev pub SidesAreFractions : Type 0
  SidesAreFractions =
      (file : File) → Fits u file → (v : List E) → AreValues u file v →
      (e : Equation) → IsEquation file e → IsByField file e →
      All (ConditionHolds u file v e.sort) (conditions_of file e) →
      IsItsFraction u file v e.sort e.left × IsItsFraction u file v e.sort e.right

  -- where they hold and the cleared numerators are equal, the equation holds
  abbrev pub EqualNumerators : Type 0
  EqualNumerators =
      (file : File) → Fits u file → (v : List E) → AreValues u file v →
      (e : Equation) → IsEquation file e → IsByField file e →
      All (ConditionHolds u file v e.sort) (conditions_of file e) →
      cleared (frac e.left) (frac e.right) ≡ cleared (frac e.right) (frac e.left) → Holds u file v e
