-- What making the fraction of a term comes to.
use Rattle.std.specs.Prelude.{cond}
use Rattle.alg_terms.specs.declared.term.Term.{Term, more_of-Term, Var, Int, Neg', Add', Sub', Mul', Div', Pow', Hom'}
use Rattle.alg_mono.specs.Outcomes.{Outcome, is_nothing}
use Rattle.alg_meaning.specs.Atoms.{atom_cmp}
use Rattle.alg_meaning.specs.FractionRules.{sum_of_fractions, product_of_fractions, quotient_of_fractions, power_of_fraction}
use Rattle.alg_meaning.specs.Fractions.{frac}

-- fine, a rule that is broken, or a denominator whose numerator is zero
pub data FractionOutcome : Type 0 where
  Fine : FractionOutcome
  Range : FractionOutcome
  Degree : FractionOutcome
  ZeroDenominator : Term → FractionOutcome

-- an outcome on polynomials as one on fractions
abbrev pub of_polynomials : Outcome → FractionOutcome
of_polynomials Outcome.Fine = FractionOutcome.Fine
of_polynomials Outcome.Range = FractionOutcome.Range
of_polynomials Outcome.Degree = FractionOutcome.Degree

-- of two things made in order: the first that isn't fine
abbrev pub first_not_fine : FractionOutcome → FractionOutcome → FractionOutcome
first_not_fine FractionOutcome.Fine later = later
first_not_fine FractionOutcome.Range later = FractionOutcome.Range
first_not_fine FractionOutcome.Degree later = FractionOutcome.Degree
first_not_fine (FractionOutcome.ZeroDenominator t) later = FractionOutcome.ZeroDenominator t

-- the first in postorder: a `/` whose right part has the numerator zero, or a node that breaks a rule
unfoldable pub frac_outcome : Term → FractionOutcome
frac_outcome (Var k) = FractionOutcome.Fine
frac_outcome (Int n) = FractionOutcome.Fine
frac_outcome (Neg' _ (more_of-Term t _)) = frac_outcome t
frac_outcome (Add' _ (more_of-Term t _) _ (more_of-Term u _)) =
    first_not_fine (frac_outcome t)
    (first_not_fine (frac_outcome u) (of_polynomials (sum_of_fractions atom_cmp (frac t) (frac u))))
frac_outcome (Sub' _ (more_of-Term t _) _ (more_of-Term u _)) =
    first_not_fine (frac_outcome t)
    (first_not_fine (frac_outcome u) (of_polynomials (sum_of_fractions atom_cmp (frac t) (frac u))))
frac_outcome (Mul' _ (more_of-Term t _) _ (more_of-Term u _)) =
    first_not_fine (frac_outcome t)
    (first_not_fine (frac_outcome u) (of_polynomials (product_of_fractions atom_cmp (frac t) (frac u))))
frac_outcome (Div' _ (more_of-Term t _) _ (more_of-Term u _)) =
    first_not_fine (frac_outcome t) (first_not_fine (frac_outcome u)
    (cond (is_nothing (frac u).top) (FractionOutcome.ZeroDenominator u)
    (of_polynomials (quotient_of_fractions atom_cmp (frac t) (frac u)))))
frac_outcome (Pow' _ (more_of-Term t _) n) =
    first_not_fine (frac_outcome t) (of_polynomials (power_of_fraction atom_cmp (frac t) n))
frac_outcome (Hom' f _ (more_of-Term t _)) = frac_outcome t
