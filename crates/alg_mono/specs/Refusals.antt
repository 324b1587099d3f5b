-- What each refusal tells.
use Rattle.std.specs.Prelude.{◌≡◌, ◌<◌, ℕ}
use Rattle.alg_mono.specs.Monomials.{MAX_DEGREE}
use Rattle.alg_mono.specs.Outcomes.{Outcome}
use Rattle.alg_mono.specs.declared.ends.Overrun.{Overrun}
use Rattle.alg_mono.specs.declared.ends.MonoEnd.{MonoEnd}

-- the refusal names the rule that is broken; want of memory tells nothing
abbrev pub RefusesWith : Overrun → Outcome → Type 0
RefusesWith Overrun.Range outcome = outcome ≡ Outcome.Range
RefusesWith Overrun.Degree outcome = outcome ≡ Outcome.Degree
RefusesWith Overrun.NoMemory outcome = Unit {0}

-- a monomial is refused only where this would be its degree, and it is over the limit; want of memory tells nothing
abbrev pub IsOverDegreeLimit : ℕ → MonoEnd → Type 0
IsOverDegreeLimit degree MonoEnd.Degree = MAX_DEGREE < degree
IsOverDegreeLimit degree MonoEnd.NoMemory = Unit {0}
