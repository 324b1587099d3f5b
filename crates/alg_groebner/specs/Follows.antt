-- The run by the computed step, which is the run by the rules where the lists of a state are in order.
use Rattle.std.specs.Prelude.{◌≡◌, ℕ}
use Rattle.alg_groebner.specs.Machine.{next}
use Rattle.alg_groebner.specs.State.{State, End, Goes, Ends}

-- the run from a state, which ends in the second
pub data Follows (limit : ℕ) : State → State → End → Type 0 where
  now : {st : State} {e : End} → next limit st ≡ Ends e → Follows limit st st e
  later : {st to last : State} {e : End} → next limit st ≡ Goes to → Follows limit to last e → Follows limit st last e
