-- What it is to make the fractions of both sides of an equation, and their numerators.
use Rattle.std.specs.Prelude.{◌≡◌, ℕ, List, []}
use Rattle.std.specs.declared.result.Result.{Result}
use Rattle.std.specs.declared.result.Result.TheVariants.{Ok, Err}
use Rattle.alg_terms.specs.declared.file.File.{File}
use Rattle.alg_terms.specs.declared.goals.Equation.{Equation}
use Rattle.alg_terms.specs.declared.term.Term.{Term}
use Rattle.alg_mono.specs.NumberedPolynomials.{Polynomial}
use Rattle.alg_meaning.specs.Conditions.{conditions_of}
use Rattle.alg_meaning.specs.FractionOutcome.{FractionOutcome, first_not_fine, frac_outcome}
use Rattle.alg_meaning.specs.FractionsOver.{FractionOver}
use Rattle.alg_reify.specs.declared.ends.FractionEnd.{FractionEnd}
use Rattle.alg_reify.specs.Ends.{EndsFractionWith}
use Rattle.alg_reify.specs.FieldVerdict.{left_numerator, right_numerator, sides_outcome}
use Rattle.alg_reify.specs.FractionsUnder.{made_fraction}
use Rattle.alg_reify.specs.Numbered.{numbered}
use Rattle.alg_reify.specs.RingVerdict.{own_table}

-- what making the fraction of the left side, and then that of the right one, comes to
abbrev pub both_outcome : Equation → FractionOutcome
both_outcome e = first_not_fine (frac_outcome e.left) (frac_outcome e.right)

module _ {F : Type 0} (fraction : F → FractionOver ℕ) (file : File) (e : Equation) (all : List Term) where
  -- these are the fractions of both sides by the numbers of the equation's atoms, and all are the goal's conditions
  pub record AreBoth (l r : F) : Type 0 where
    pub left : fraction l ≡ made_fraction (own_table file e) [] e.left
    pub right : fraction r ≡ made_fraction (own_table file e) [] e.right
    pub fine : both_outcome e ≡ FractionOutcome.Fine
    pub conditions : all ≡ conditions_of file e

  -- they were made, or the end is told
  abbrev pub MakesBoth : Result (F × F) FractionEnd → Type 0
  MakesBoth (Ok p) = AreBoth p.0 p.1
  MakesBoth (Err end) = EndsFractionWith end (both_outcome e)

-- these are the numerators of both sides over their common factors, by the numbers of the equation's atoms, and all are
-- the goal's conditions
pub record AreCleared (file : File) (e : Equation) (all : List Term) (p q : Polynomial) : Type 0 where
  pub left : p ≡ numbered (own_table file e) (left_numerator e)
  pub right : q ≡ numbered (own_table file e) (right_numerator e)
  pub fine : sides_outcome e ≡ FractionOutcome.Fine
  pub conditions : all ≡ conditions_of file e
