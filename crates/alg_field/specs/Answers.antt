-- What an answer and a stop say.
use Rattle.std.specs.Prelude.{◌≡◌, List, Option, Some, None}
use Rattle.std.specs.declared.result.Result.{Result}
use Rattle.std.specs.declared.result.Result.TheVariants.{Ok, Err}
use Rattle.alg_terms.specs.declared.term.Term.{Term}
use Rattle.alg_terms.specs.declared.file.File.{File}
use Rattle.alg_terms.specs.declared.goals.Equation.{Equation}
use Rattle.alg_mono.specs.NumberedPolynomials.{Polynomial, DifferFirst}
use Rattle.alg_reify.specs.declared.stop.Stop.{Stop}
use Rattle.alg_reify.specs.FieldVerdict.{FieldVerdict, IsFieldVerdict, left_numerator, right_numerator, sides_outcome}
use Rattle.alg_reify.specs.MadeSides.{AreCleared}
use Rattle.alg_reify.specs.Numbered.{numbered}
use Rattle.alg_reify.specs.RingVerdict.{own_table}
use Rattle.alg_field.specs.declared.decide.FieldAnswer.{FieldAnswer}
use Rattle.alg_field.specs.declared.decide.Sides.{Sides}
use Rattle.alg_reify.specs.declared.ends.FractionEnd.{FractionEnd}
use Rattle.alg_reify.specs.Ends.{EndsFractionWith}

-- the verdict that an answer is
abbrev pub verdict_of : FieldAnswer → FieldVerdict
verdict_of (FieldAnswer.Proved conditions) = FieldVerdict.Proved conditions
verdict_of (FieldAnswer.No at left right) = FieldVerdict.No at left right
verdict_of (FieldAnswer.ZeroDenominator t) = FieldVerdict.ZeroDenominator t

-- a stop is the verdict of its name; want of memory says nothing
abbrev pub StopsWith : File → Equation → Stop → Type 0
StopsWith file e Stop.Atoms = IsFieldVerdict file e FieldVerdict.Atoms
StopsWith file e Stop.Range = IsFieldVerdict file e FieldVerdict.Range
StopsWith file e Stop.Degree = IsFieldVerdict file e FieldVerdict.Degree
StopsWith file e Stop.NoMemory = Unit {0}

-- both cleared numerators, by the numbers of the equation's atoms
abbrev pub AreNumerators : File → Equation → Polynomial × Polynomial → Type 0
AreNumerators file e n =
    let atoms = own_table file e in
    (n.0 ≡ numbered atoms (left_numerator e)) × (n.1 ≡ numbered atoms (right_numerator e))

-- there are numerators but where a denominator is zero
abbrev pub HasNumerators : File → Equation → FieldAnswer → Option (Polynomial × Polynomial) → Type 0
HasNumerators file e (FieldAnswer.ZeroDenominator t) None = Unit {0}
HasNumerators file e (FieldAnswer.ZeroDenominator t) (Some n) = ⊥
HasNumerators file e _ None = ⊥
HasNumerators file e _ (Some n) = AreNumerators file e n

-- two polynomials are equal, under these conditions, or they first differ so
abbrev pub IsComparison : Polynomial → Polynomial → List Term → FieldAnswer → Type 0
IsComparison p q conditions (FieldAnswer.Proved all) = (p ≡ q) × (all ≡ conditions)
IsComparison p q conditions (FieldAnswer.No at left right) = DifferFirst p q at left right
IsComparison p q conditions (FieldAnswer.ZeroDenominator t) = ⊥

-- the cleared numerators of both sides, with the conditions
abbrev pub AreSides : File → Equation → Sides → Type 0
AreSides file e s = AreCleared file e s.conditions.items s.left s.right

-- they were made, or the end is told
abbrev pub MakesSides : File → Equation → Result Sides FractionEnd → Type 0
MakesSides file e (Ok s) = AreSides file e s
MakesSides file e (Err end) = EndsFractionWith end (sides_outcome e)
