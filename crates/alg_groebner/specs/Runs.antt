-- The run of the machine, and its first state.
use Rattle.std.specs.Prelude.{◌≡◌, ℕ, zero, suc, ◌+◌, ◌*◌, ◌-◌, List, [], ◌∷◌, Option, Some, None, length}
use Rattle.alg_mono.specs.Outcomes.{Outcome, first_breach, power_outcome}
use Rattle.alg_mono.specs.NumberedPolynomials.{Polynomial, power_of}
use Rattle.alg_groebner.specs.State.{State, End, Range, Degree, Goes, Ends}
use Rattle.alg_groebner.specs.Rules.{Takes}
use Rattle.alg_groebner.specs.declared.remainder.Remainder.{Remainder}

-- the run from a state, which ends in the second
pub data Runs (limit : ℕ) : State → State → End → Type 0 where
  ends : {st : State} {e : End} → Takes limit st (Ends e) → Runs limit st st e
  goes : {st to last : State} {e : End} → Takes limit st (Goes to) → Runs limit to last e → Runs limit st last e

abbrev pub current_left : Option ℕ → ℕ
current_left None = 0
current_left (Some k) = 1

-- more than the steps that are left
abbrev pub work : ℕ → State → ℕ
work limit st = 2 * (limit - st.count) + 2 * (st.given - st.taken) + current_left st.current

-- n powers of g, from the power r on
abbrev pub powers : Polynomial → ℕ → ℕ → List Remainder
powers g r zero = []
powers g r (suc n) = record { rest = power_of g r; steps = [] } ∷ powers g (r + 1) n

-- the first of them that breaks a rule
abbrev pub powers_outcome : Polynomial → ℕ → ℕ → Outcome
powers_outcome g r zero = Outcome.Fine
powers_outcome g r (suc n) = first_breach (power_outcome g r) (powers_outcome g (r + 1) n)

abbrev pub first_state : List Polynomial → List Remainder → State
first_state hyps remainders = record {
  given = length hyps;
  lines = hyps;
  made = [];
  basis = [];
  pairs = [];
  taken = 0;
  remainders = remainders;
  current = None;
  count = 0;
}

-- the end of a search, and the state where it ends
pub data Comes (hyps : List Polynomial) (g : Polynomial) (power limit : ℕ) : State → End → Type 0 where
  too_great : powers_outcome g 1 power ≡ Outcome.Range →
      Comes hyps g power limit (first_state hyps (powers g 1 power)) Range
  too_high : powers_outcome g 1 power ≡ Outcome.Degree →
      Comes hyps g power limit (first_state hyps (powers g 1 power)) Degree
  runs : {last : State} {e : End} → powers_outcome g 1 power ≡ Outcome.Fine →
      Runs limit (first_state hyps (powers g 1 power)) last e → Comes hyps g power limit last e
