-- A state of the machine as the laws see it, and what holds after a step.
use Rattle.std.specs.Prelude.{◌≡◌, ℕ, List, ◌++◌, length}
use Rattle.alg_mono.specs.NumberedPolynomials.{Polynomial}
use Rattle.alg_groebner.specs.State.{State, End, Next, Goes, Ends}
use Rattle.alg_criterion.proofs.Spans.{Every}
use Rattle.alg_criterion.proofs.Machine.{IsPoly, Reached, IsAtItsEnd}
use Rattle.alg_criterion.proofs.Numbered.{IsWithin, mono_times, mono_over, falling}
use Rattle.alg_criterion.proofs.Seeing.{seen}

module _ (b : ℕ) (hyps powers : List Polynomial) (hyps_ok : Every (IsPoly falling mono_times mono_over (IsWithin b))
    hyps)
    (powers_ok : Every (IsPoly falling mono_times mono_over (IsWithin b)) powers) where
  -- the state is reached
  pub record IsFine (st : State) : Type 0 where
    pub made : List Polynomial
    pub reached : Reached falling mono_times mono_over (IsWithin b) hyps powers (seen hyps st made)
    pub lines : st.lines ≡ hyps ++ made
    pub given : st.given ≡ length hyps
    pub count : length st.remainders ≡ length powers

  -- and nothing is left to do there
  pub record IsDone (st : State) (r : ℕ) : Type 0 where
    pub fine : IsFine st
    pub over : IsAtItsEnd falling mono_times mono_over (IsWithin b) (seen hyps st fine.made)
    pub power : r ≡ length powers

  abbrev pub After : State → Next → Type 0
  After st (Goes to) = IsFine to
  After st (Ends (End.Proved r)) = Unit {0}
  After st (Ends (End.NoneUpTo r)) = IsDone st r
  After st (Ends End.GaveUp) = Unit {0}
  After st (Ends End.Range) = Unit {0}
  After st (Ends End.Degree) = Unit {0}
