-- What the end of making a fraction tells.
use Rattle.std.specs.Prelude.{◌≡◌, ℕ}
use Rattle.std.specs.declared.result.Result.{Result}
use Rattle.std.specs.declared.result.Result.TheVariants.{Ok, Err}
use Rattle.alg_mono.specs.declared.ends.Overrun.{Overrun}
use Rattle.alg_meaning.specs.FractionOutcome.{FractionOutcome}
use Rattle.alg_meaning.specs.FractionsOver.{FractionOver}
use Rattle.alg_reify.specs.declared.ends.FractionEnd.{FractionEnd}

-- the refusal names the rule that is broken; want of memory tells nothing
abbrev pub RefusesFractionWith : Overrun → FractionOutcome → Type 0
RefusesFractionWith Overrun.Range outcome = outcome ≡ FractionOutcome.Range
RefusesFractionWith Overrun.Degree outcome = outcome ≡ FractionOutcome.Degree
RefusesFractionWith Overrun.NoMemory outcome = Unit {0}

-- or the denominator that is zero
abbrev pub EndsFractionWith : FractionEnd → FractionOutcome → Type 0
EndsFractionWith (FractionEnd.Refused end) outcome = RefusesFractionWith end outcome
EndsFractionWith (FractionEnd.ZeroDenominator t) outcome = outcome ≡ FractionOutcome.ZeroDenominator t

-- this fraction is made where the outcome is fine, and else the end is told
abbrev pub GivesFraction : {F : Type 0} → (F → FractionOver ℕ) → FractionOver ℕ → FractionOutcome →
    Result F FractionEnd → Type 0
GivesFraction fraction x outcome (Ok f) = (fraction f ≡ x) × (outcome ≡ FractionOutcome.Fine)
GivesFraction fraction x outcome (Err e) = EndsFractionWith e outcome
