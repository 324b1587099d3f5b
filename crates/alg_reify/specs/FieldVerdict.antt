-- The answer to a goal by field.
use Rattle.std.specs.Prelude.{◌≡◌, ◌<◌, ◌≤◌, ℤ, List, length}
use Rattle.alg_terms.specs.declared.file.File.{File}
use Rattle.alg_terms.specs.declared.goals.Equation.{Equation}
use Rattle.alg_terms.specs.declared.term.Term.{Term}
use Rattle.alg_mono.specs.Mono.{Monomial}
use Rattle.alg_mono.specs.NumberedPolynomials.{DifferFirst}
use Rattle.alg_meaning.specs.Atoms.{Polynomial, atom_cmp}
use Rattle.alg_meaning.specs.Conditions.{conditions_of}
use Rattle.alg_meaning.specs.FractionOutcome.{FractionOutcome, first_not_fine, frac_outcome, of_polynomials}
use Rattle.alg_meaning.specs.FractionRules.{cleared_outcome}
use Rattle.alg_meaning.specs.Fractions.{frac, cleared}
use Rattle.alg_reify.specs.Table.{MAX_ATOMS}
use Rattle.alg_reify.specs.Numbered.{numbered}
use Rattle.alg_reify.specs.RingVerdict.{own_table}

-- there are too many atoms; a rule on norms or degrees is broken; a denominator, as written, is zero; the sides are
-- equal under conditions; or the cleared numerators differ, with the greatest monomial where they do and its
-- coefficients on the left and on the right
pub data FieldVerdict : Type 0 where
  Atoms : FieldVerdict
  Range : FieldVerdict
  Degree : FieldVerdict
  ZeroDenominator : Term → FieldVerdict
  Proved : List Term → FieldVerdict
  No : Monomial → ℤ → ℤ → FieldVerdict

-- the left side's numerator over the common factors of both sides
abbrev pub left_numerator : Equation → Polynomial
left_numerator e = cleared (frac e.left) (frac e.right)

-- the right side's numerator over the common factors of both sides
abbrev pub right_numerator : Equation → Polynomial
right_numerator e = cleared (frac e.right) (frac e.left)

-- what making the left side's fraction, then the right side's, and then both numerators comes to
abbrev pub sides_outcome : Equation → FractionOutcome
sides_outcome e =
    first_not_fine (frac_outcome e.left) (first_not_fine (frac_outcome e.right)
    (of_polynomials (cleared_outcome atom_cmp (frac e.left) (frac e.right))))

-- there are not too many atoms, and making both sides comes to this
abbrev pub SidesComeTo : File → Equation → FractionOutcome → Type 0
SidesComeTo file e outcome = (length (own_table file e) ≤ MAX_ATOMS) × (sides_outcome e ≡ outcome)

-- the verdict on an equation by field: the atoms come first, then the making of both sides, and then the numerators
abbrev pub IsFieldVerdict : File → Equation → FieldVerdict → Type 0
IsFieldVerdict file e FieldVerdict.Atoms = MAX_ATOMS < length (own_table file e)
IsFieldVerdict file e FieldVerdict.Range = SidesComeTo file e FractionOutcome.Range
IsFieldVerdict file e FieldVerdict.Degree = SidesComeTo file e FractionOutcome.Degree
IsFieldVerdict file e (FieldVerdict.ZeroDenominator t) = SidesComeTo file e (FractionOutcome.ZeroDenominator t)
IsFieldVerdict file e (FieldVerdict.Proved conditions) =
    SidesComeTo file e FractionOutcome.Fine × (left_numerator e ≡ right_numerator e)
    × (conditions ≡ conditions_of file e)
IsFieldVerdict file e (FieldVerdict.No m a b) =
    let atoms = own_table file e in
    SidesComeTo file e FractionOutcome.Fine
    × DifferFirst (numbered atoms (left_numerator e)) (numbered atoms (right_numerator e)) m a b
