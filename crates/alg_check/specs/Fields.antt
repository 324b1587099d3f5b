-- How an equation by field is decided anew.
use Rattle.std.specs.Prelude.{◌≡◌}
use Rattle.std.specs.declared.result.Result.{Result}
use Rattle.std.specs.declared.result.Result.TheVariants.{Ok, Err}
use Rattle.alg_terms.specs.declared.file.File.{File}
use Rattle.alg_terms.specs.declared.goals.Equation.{Equation}
use Rattle.alg_lines.specs.declared.answer.Answer.{Answer}
use Rattle.alg_reify.specs.declared.ends.FractionEnd.{FractionEnd}
use Rattle.alg_reify.specs.Ends.{EndsFractionWith}
use Rattle.alg_reify.specs.FieldVerdict.{sides_outcome}
use Rattle.alg_reify.specs.MadeSides.{AreCleared}
use Rattle.alg_reify.specs.Stops.{stop_of_polynomial}
use Rattle.alg_check.specs.Answers.{IsStopped}
use Rattle.alg_check.specs.declared.field.Sides.{Sides}

-- the numerators of both sides over their common factors were made, with the conditions, or the end is told
abbrev pub MakesSides : File → Equation → Result Sides FractionEnd → Type 0
MakesSides file e (Ok s) = AreCleared file e s.conditions.items s.left s.right
MakesSides file e (Err end) = EndsFractionWith end (sides_outcome e)

-- the answer where they could not be made: a zero denominator as written, or the rule that is broken
abbrev pub IsEnded : FractionEnd → Answer → Type 0
IsEnded (FractionEnd.ZeroDenominator t) answer = answer ≡ Answer.ZeroDenominator t
IsEnded (FractionEnd.Refused end) answer = IsStopped (stop_of_polynomial end) answer
