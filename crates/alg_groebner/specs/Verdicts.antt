-- What the search answers.
use Rattle.std.specs.Prelude.{◌≡◌, ℕ, ◌+◌, ◌≤◌, List, Result, Ok, Err, length}
use Rattle.alg_mono.specs.NumberedPolynomials.{Polynomial}
use Rattle.alg_mono.specs.declared.ends.Overrun.{Overrun}
use Rattle.alg_mono.specs.declared.ends.Overrun.TheVariants as overruns
use Rattle.alg_groebner.specs.Pruning.{certificate}
use Rattle.alg_groebner.specs.Runs.{Comes}
use Rattle.alg_groebner.specs.State as state
use Rattle.alg_groebner.specs.State.{State}
use Rattle.alg_groebner.specs.declared.decide.Verdict.{Verdict}
use Rattle.alg_groebner.specs.declared.decide.Verdict.TheVariants.{Proved, NoneUpTo, GaveUp}

module _ (hyps : List Polynomial) (g : Polynomial) (power limit : ℕ) where
  abbrev pub ComesTo : state.End → Type 0
  ComesTo e = (last : State) × Comes hyps g power limit last e

  -- the answer is the end of the only run, and a proof has the certificate of the run
  abbrev pub Decides : Result Verdict Overrun → Type 0
  Decides (Ok (Proved cert)) =
      (last : State) × (r : ℕ) × Comes hyps g power limit last (state.Proved r) × (cert ≡ certificate last r)
  Decides (Ok (NoneUpTo r)) = ComesTo (state.NoneUpTo r)
  Decides (Ok (GaveUp n)) = (n ≡ limit) × ComesTo state.GaveUp
  Decides (Err overruns.Range) = ComesTo state.Range
  Decides (Err overruns.Degree) = ComesTo state.Degree
  Decides (Err overruns.NoMemory) = Unit {0}

-- the lines and steps of a certificate are together at most `limit`
abbrev pub IsWithinLimit : ℕ → Result Verdict Overrun → Type 0
IsWithinLimit limit (Ok (Proved cert)) = length cert.lines + length cert.steps ≤ limit
IsWithinLimit limit (Ok (NoneUpTo r)) = Unit {0}
IsWithinLimit limit (Ok (GaveUp n)) = Unit {0}
IsWithinLimit limit (Err e) = Unit {0}
