-- The eight rules over the state as the code keeps it.
use Rattle.std.specs.Prelude.{ℕ, cond, List, [], ◌∷◌, Option, Some, None, nat_lt, length}
use Rattle.alg_mono.specs.Outcomes.{Outcome}
use Rattle.alg_mono.specs.NumberedPolynomials.{Polynomial}
use Rattle.alg_pairs.specs.declared.pair.Pair.{Pair}
use Rattle.alg_groebner.specs.Cancelling.{reduce_outcome, s_outcome}
use Rattle.alg_groebner.specs.Choices.{remainder_at, zero_power}
use Rattle.alg_groebner.specs.State.{End}
use Rattle.alg_groebner.specs.Work.{Work, member_at, member_reducer, member_reducible, work_goal_reduced, work_line_reduced, work_joined, work_taken, work_pair_taken}
use Rattle.alg_groebner.specs.declared.member.Member.{Member}

-- what one step gives
pub data WorkNext : Type 0 where
  GoesOn : Work → WorkNext
  Stops : End → WorkNext

abbrev pub work_made : Outcome → Work → WorkNext
work_made Outcome.Fine to = GoesOn to
work_made Outcome.Range to = Stops End.Range
work_made Outcome.Degree to = Stops End.Degree

module _ (limit : ℕ) (w : Work) where
  abbrev pub work_counted : Outcome → Work → WorkNext
  work_counted outcome to = cond (nat_lt w.count limit) (work_made outcome to) (Stops End.GaveUp)

  -- PairIsTaken, where there are both lines
  abbrev pub by_members : List Pair → Option Member → Option Member → WorkNext
  by_members rest (Some b) (Some c) =
      work_counted (s_outcome b.poly c.poly)
      (work_pair_taken (record w { queue = record { pairs = rest; beyond = w.queue.beyond } }) b c)
  by_members rest (Some b) None = Stops End.GaveUp
  by_members rest None other = Stops End.GaveUp

  -- PairIsTaken, the pairs beyond the limit after all others; NothingIsLeft
  abbrev pub work_by_pairs : List Pair → WorkNext
  work_by_pairs (x ∷ rest) = by_members rest (member_at w.basis x.i) (member_at w.basis x.j)
  work_by_pairs [] =
      cond w.queue.beyond (work_counted Outcome.Degree w) (Stops (End.NoneUpTo (length w.remainders)))

  -- LineIsReduced; LineJoins
  abbrev pub work_by_reducer : Member → Option Member → WorkNext
  work_by_reducer c (Some b) = work_counted (reduce_outcome c.poly b.poly) (work_line_reduced w c b)
  work_by_reducer c None = GoesOn (work_joined w c)

  -- LineIsZero
  abbrev pub work_by_line : Member → Polynomial → WorkNext
  work_by_line c [] = GoesOn (record w { current = None })
  work_by_line c (e ∷ p) = work_by_reducer c (member_reducer w.basis (e ∷ p))

module _ (hyps : List Polynomial) (limit : ℕ) (w : Work) where
  -- InputIsTaken
  abbrev pub work_by_inputs : WorkNext
  work_by_inputs =
      cond (nat_lt w.taken w.given) (GoesOn (work_taken w hyps)) (work_by_pairs limit w w.queue.pairs)

  -- GoalIsReduced
  abbrev pub work_by_reducible : Option (ℕ × Member) → WorkNext
  work_by_reducible (Some x) =
      work_counted limit w (reduce_outcome (remainder_at w.remainders x.0).rest x.1.poly)
      (work_goal_reduced w x.0 x.1)
  work_by_reducible None = work_by_inputs

  abbrev pub work_by_current : Option Member → WorkNext
  work_by_current None = work_by_reducible (member_reducible w.basis 0 w.remainders)
  work_by_current (Some c) = work_by_line limit w c c.poly

  -- GoalIsZero
  abbrev pub work_by_power : Option ℕ → WorkNext
  work_by_power (Some r) = Stops (End.Proved r)
  work_by_power None = work_by_current w.current

  unfoldable pub work_next : WorkNext
  work_next = work_by_power (zero_power w.remainders)
