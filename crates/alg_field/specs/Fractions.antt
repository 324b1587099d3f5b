-- Fractions as the code keeps them, and what it is to make one.
use Rattle.std.specs.Prelude.{ℕ}
use Rattle.std.specs.declared.result.Result.{Result}
use Rattle.alg_mono.specs.declared.ends.Overrun.{Overrun}
use Rattle.alg_mono.specs.Outcomes.{Outcome}
use Rattle.alg_meaning.specs.FractionsOver.{FractionOver}
use Rattle.alg_reify.specs.Making.{Gives}
use Rattle.alg_field.specs.declared.fraction.Fraction.{Fraction}

-- the fraction
abbrev pub fraction_of : Fraction → FractionOver ℕ
fraction_of f = record { top = f.top; below = f.below }

-- this fraction is made
abbrev pub MakesFraction : FractionOver ℕ → Outcome → Result Fraction Overrun → Type 0
MakesFraction x outcome result = Gives fraction_of x outcome result
