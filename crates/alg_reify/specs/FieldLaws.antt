-- What holds of the verdicts by field.
use Rattle.std.specs.Prelude.{◌≡◌, ◌≢◌, ◌<◌, ◌≤◌, ℤ, List, [], ◌∷◌, All, length, unsigned_abs}
use Rattle.std.specs.Ordering.{nat_cmp}
use Rattle.alg_terms.specs.declared.file.File.{File}
use Rattle.alg_terms.specs.declared.goals.Equation.{Equation}
use Rattle.alg_terms.specs.declared.goals.Goal.{Goal}
use Rattle.alg_terms.specs.declared.goals.Method.TheVariants.{ByField}
use Rattle.alg_terms.specs.declared.term.Term.{Term}
use Rattle.alg_terms.specs.AnswerRules.{IsAnswerTerm}
use Rattle.alg_terms.specs.GoalRules.{IsGoal}
use Rattle.alg_terms.specs.Occurring.{UseOnly, homs_in, vars_in}
use Rattle.alg_mono.specs.FiniteMaps.{Each}
use Rattle.alg_mono.specs.Mono.{Monomial}
use Rattle.alg_mono.specs.Monomials.{IsMono}
use Rattle.alg_mono.specs.Numbers.{integers}
use Rattle.alg_mono.specs.Polynomials.{MAX, coefficient}
use Rattle.alg_meaning.specs.Atoms.{atom_cmp, falling}
use Rattle.alg_meaning.specs.FractionRules.{cleared_outcome}
use Rattle.alg_meaning.specs.Fractions.{frac}
use Rattle.alg_meaning.specs.FractionsOver.{cleared}
use Rattle.alg_reify.specs.FieldVerdict.{FieldVerdict, IsFieldVerdict, left_numerator, right_numerator}
use Rattle.alg_reify.specs.FractionsUnder.{made_fraction}
use Rattle.alg_reify.specs.Numbered.{numbered, over_atoms}
use Rattle.alg_reify.specs.RingVerdict.{own_table}

-- an equation has at most one verdict
abbrev pub OneFieldVerdict : Type 0
OneFieldVerdict =
    (file : File) (e : Equation) (v w : FieldVerdict) → IsFieldVerdict file e v → IsFieldVerdict file e w → v ≡ w

-- the cleared numerators are different polynomials, and at this monomial, read as atoms, they have these different
-- coefficients
pub record NumeratorsDiffer (file : File) (e : Equation) (m : Monomial) (a b : ℤ) : Type 0 where
  pub numerators : left_numerator e ≢ right_numerator e
  pub left : coefficient falling integers (over_atoms (own_table file e) m) (left_numerator e) ≡ a
  pub right : coefficient falling integers (over_atoms (own_table file e) m) (right_numerator e) ≡ b
  pub differ : a ≢ b

-- where the verdict is No, the cleared numerators differ so
abbrev pub FieldNoDiffers : Type 0
FieldNoDiffers =
    (file : File) (e : Equation) (m : Monomial) (a b : ℤ) → IsFieldVerdict file e (FieldVerdict.No m a b) →
    NumeratorsDiffer file e m a b

-- the monomial of a verdict No is over atoms of the equation's table
abbrev pub FieldNoIsOverTheTable : Type 0
FieldNoIsOverTheTable =
    (file : File) (e : Equation) (m : Monomial) (a b : ℤ) → IsFieldVerdict file e (FieldVerdict.No m a b) →
    Each (λ k. k < length (own_table file e)) m

-- neither coefficient of a verdict No is greater than a norm may be
abbrev pub FieldNoIsWithinRange : Type 0
FieldNoIsWithinRange =
    (file : File) (e : Equation) (m : Monomial) (a b : ℤ) → IsFieldVerdict file e (FieldVerdict.No m a b) →
    (unsigned_abs a ≤ MAX) × (unsigned_abs b ≤ MAX)

-- the monomial of a verdict No is one of a polynomial: its atoms rise, no exponent is 0, and its degree is within the
-- limit
abbrev pub FieldNoIsAMonomial : Type 0
FieldNoIsAMonomial =
    (file : File) (e : Equation) (m : Monomial) (a b : ℤ) → IsFieldVerdict file e (FieldVerdict.No m a b) →
    IsMono nat_cmp m

-- the conditions of a verdict on a goal by field, and its denominator that is zero, may stand in an answer to the goal
pub record FieldTermsMayStand : Type 0 where
  pub conditions : (file : File) (goal : Goal) (terms : List Term) → IsGoal file goal → goal.method ≡ ByField →
      IsFieldVerdict file goal.equation (FieldVerdict.Proved terms) → All (IsAnswerTerm file goal) terms
  pub denominator : (file : File) (goal : Goal) (t : Term) → IsGoal file goal → goal.method ≡ ByField →
      IsFieldVerdict file goal.equation (FieldVerdict.ZeroDenominator t) → IsAnswerTerm file goal t

-- the conditions of a verdict by field, and its denominator that is zero, use only the variables and the morphisms of
-- the equation
pub record FieldTermsOccur : Type 0 where
  pub conditions : (file : File) (e : Equation) (terms : List Term) →
      IsFieldVerdict file e (FieldVerdict.Proved terms) → UseOnly (vars_in e) (homs_in e) terms
  pub denominator : (file : File) (e : Equation) (t : Term) →
      IsFieldVerdict file e (FieldVerdict.ZeroDenominator t) → UseOnly (vars_in e) (homs_in e) (t ∷ [])

-- by the numbers of its table, the numerators of an equation's sides over their common factors are made of the sides'
-- fractions, breaking the same rules, and are equal only where the numerators are
pub record AreSidesByNumbers (file : File) (e : Equation) : Type 0 where
  pub left : numbered (own_table file e) (left_numerator e)
      ≡ cleared nat_cmp (made_fraction (own_table file e) [] e.left) (made_fraction (own_table file e) [] e.right)
  pub right : numbered (own_table file e) (right_numerator e)
      ≡ cleared nat_cmp (made_fraction (own_table file e) [] e.right) (made_fraction (own_table file e) [] e.left)
  pub outcome : cleared_outcome atom_cmp (frac e.left) (frac e.right)
      ≡ cleared_outcome nat_cmp (made_fraction (own_table file e) [] e.left)
      (made_fraction (own_table file e) [] e.right)
  pub equal : numbered (own_table file e) (left_numerator e) ≡ numbered (own_table file e) (right_numerator e) →
      left_numerator e ≡ right_numerator e

abbrev pub SidesByNumbers : Type 0
SidesByNumbers = (file : File) (e : Equation) → AreSidesByNumbers file e
