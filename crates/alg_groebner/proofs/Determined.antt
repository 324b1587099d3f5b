-- A state has one next state or one end, and a run one end.
use Rattle.std.specs.Prelude.{◌≡◌, ℕ, zero, suc, ◌<◌}
use Rattle.std.proofs.Common.{refl, ap, subst, arith}
use Rattle.alg_mono.specs.Outcomes.{Outcome}
use Rattle.alg_groebner.specs.Laws.{OneStep, StaysInOrder, OneEnd, SomeEnd, EachSearchEnds}
use Rattle.alg_groebner.specs.Rules.{Takes}
use Rattle.alg_groebner.specs.State.{State, End, Next, Goes, Ends}
use Rattle.alg_groebner.specs.Runs.{Runs, ends, goes, work, powers, powers_outcome, first_state}
use Rattle.alg_groebner.specs.Runs.{Comes, too_great, too_high, runs}
use Rattle.alg_groebner.specs.Sound.{IsSound}
use Rattle.alg_groebner.proofs.Deciding.{some_taken, taken_keeps}
use Rattle.alg_groebner.proofs.Ending.{first_sound}
use Rattle.alg_groebner.proofs.Keeping.{Keeps}
use Rattle.alg_groebner.proofs.Ordered.{stays, first_in_order}
use Rattle.alg_groebner.proofs.Ruled.{one_taken}

end_or : End → Next → End
end_or e (Goes to) = e
end_or e (Ends f) = f

state_or : State → Next → State
state_or st (Goes to) = to
state_or st (Ends f) = st

Stops : Next → Type 0
Stops (Goes to) = ⊥
Stops (Ends e) = Unit {0}

pub one_end : OneEnd
unfolding end_or state_or Stops
one_end limit st a b e f (ends h) (ends k) = (refl, ap (end_or e) (one_taken limit st (Ends e) (Ends f) h k))
one_end limit st a b e f (ends h) (goes {to = to} k r) =
    absurd (subst Stops (one_taken limit st (Ends e) (Goes to) h k) tt)
one_end limit st a b e f (goes {to = to} h r) (ends k) =
    absurd (subst Stops (one_taken limit st (Ends f) (Goes to) k h) tt)
one_end limit st a b e f (goes {to = to} h r) (goes {to = too} k s) =
    let same : to ≡ too = ap (state_or st) (one_taken limit st (Goes to) (Goes too) h k) in
    one_end limit too a b e f (subst (λ (x : State). Runs limit x a e) same r) s

pub one_step : OneStep
one_step limit st =
    let some = some_taken limit st in
    (some.0, some.1, λ y t. one_taken limit st y some.0 t some.1)

pub stays_in_order : StaysInOrder
stays_in_order = (first_in_order, λ limit st to s t. stays limit st s to t)

-- ---- each run ends
abbrev Ending : ℕ → State → Type 0
Ending limit st = (last : State) × (e : End) × Runs limit st last e

some_end_in : (n limit : ℕ) (st : State) → IsSound limit st → work limit st < n → Ending limit st
some_end_in zero limit st s h = absurd (omega arith)
some_end_in (suc n) limit st s h =
    let some = some_taken limit st in
    go (λ to t w. some_end_in n limit to t w) some.0 some.1 (taken_keeps limit st s some.0 some.1)
  where
    go : ((to : State) → IsSound limit to → work limit to < n → Ending limit to) →
        (x : Next) → Takes limit st x → Keeps limit st x → Ending limit st
    go further (Ends e) t k = (st, e, ends t)
    go further (Goes to) t k =
        let less = k.1 in
        let rest = further to k.0 (omega arith) in
        (rest.0, rest.1, goes t rest.2)

pub some_end : SomeEnd
some_end limit st s = some_end_in (suc (work limit st)) limit st s (omega arith)

pub each_search_ends : EachSearchEnds
each_search_ends hyps g power limit few small low = by_powers (powers_outcome g 1 power) refl
  where
    by_powers : (o : Outcome) → powers_outcome g 1 power ≡ o →
        (last : State) × (e : End) × Comes hyps g power limit last e
    by_powers Outcome.Range e = (first_state hyps (powers g 1 power), End.Range, too_great e)
    by_powers Outcome.Degree e = (first_state hyps (powers g 1 power), End.Degree, too_high e)
    by_powers Outcome.Fine e =
        let end = some_end limit (first_state hyps (powers g 1 power))
        (first_sound hyps g power limit few small low) in
        (end.0, end.1, runs e end.2)
