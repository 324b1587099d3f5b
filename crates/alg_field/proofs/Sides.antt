-- The two sides of an equation, made and compared.
use Rattle.std.specs.Prelude.{◌≡◌, ◌≤◌, length}
use Rattle.std.proofs.Common.{sym, subst}
use Rattle.std.specs.declared.result.Result.{Result}
use Rattle.std.specs.declared.result.Result.TheVariants.{Ok, Err}
use Rattle.std.specs.Result.{IsErrAnd}
use Rattle.alg_terms.specs.declared.file.File.{File}
use Rattle.alg_terms.specs.declared.goals.Equation.{Equation}
use Rattle.alg_reify.specs.declared.ends.FractionEnd.{FractionEnd}
use Rattle.alg_reify.specs.Ends.{EndsFractionWith}
use Rattle.alg_reify.specs.FieldVerdict.{IsFieldVerdict, sides_outcome}
use Rattle.alg_reify.specs.RingVerdict.{own_table}
use Rattle.alg_reify.specs.Table.{MAX_ATOMS}
use Rattle.alg_reify.proofs.FieldSides.{equal_numerators, different_numerators}
use Rattle.alg_field.specs.Answers.{verdict_of, IsComparison, AreSides, MakesSides}
use Rattle.alg_field.specs.declared.decide.FieldAnswer.{FieldAnswer}
use Rattle.alg_field.specs.declared.decide.Sides.{Sides}

pub sides_failed : (file : File) (e : Equation) (r : Result Sides FractionEnd) (end : FractionEnd) →
    IsErrAnd r (λ d. d ≡ end) → EndsFractionWith end (sides_outcome e) → MakesSides file e r
sides_failed file e (Ok s) end came h = absurd came
sides_failed file e (Err d) end came h =
    let P : FractionEnd → Type 0 = λ x. EndsFractionWith x (sides_outcome e) in subst P (sym came) h

-- both numerators were compared
pub answered : (file : File) (e : Equation) (s : Sides) (answer : FieldAnswer) → length (own_table file e) ≤ MAX_ATOMS →
    AreSides file e s → IsComparison s.left s.right s.conditions.items answer →
    IsFieldVerdict file e (verdict_of answer)
answered file e s (FieldAnswer.Proved all) small sides h =
    equal_numerators file e small s.conditions.items s.left s.right sides all h.0 h.1
answered file e s (FieldAnswer.No at a b) small sides h =
    different_numerators file e small s.conditions.items s.left s.right sides at a b h
answered file e s (FieldAnswer.ZeroDenominator t) small sides h = absurd h
