-- The step of the search machine as it is computed, one small function for each rule.
use Rattle.std.specs.Prelude.{ℕ, cond, List, [], ◌∷◌, Option, Some, None, nat_lt, length}
use Rattle.alg_mono.specs.Outcomes.{Outcome}
use Rattle.alg_mono.specs.NumberedPolynomials.{Polynomial}
use Rattle.alg_lines.specs.Lines.{line_at}
use Rattle.alg_pairs.specs.declared.pair.Pair.{Pair}
use Rattle.alg_groebner.specs.State.{State, Proved, NoneUpTo, GaveUp, Range, Degree, Next, Goes, Ends}
use Rattle.alg_groebner.specs.Choices.{zero_power, reducer, first_reducible}
use Rattle.alg_groebner.specs.Moves.{goal_outcome, goal_reduced, dropped, line_outcome, line_reduced, joined, next_taken, without_pair, pair_outcome, pair_taken}

-- a move, where it breaks no rule on norms and degrees
abbrev pub made : Outcome → State → Next
made Outcome.Fine to = Goes to
made Outcome.Range to = Ends Range
made Outcome.Degree to = Ends Degree

module _ (limit : ℕ) (st : State) where
  -- a counted move that is due: not made where `limit` of them were
  abbrev pub counted : Outcome → State → Next
  counted outcome to = cond (nat_lt st.count limit) (made outcome to) (Ends GaveUp)

  -- PairIsTaken: a pair is left, the least of which is taken; NothingIsLeft: nothing is left to do
  abbrev pub by_pairs : List Pair → Next
  by_pairs (x ∷ rest) =
      counted (pair_outcome st x.i x.j) (pair_taken (without_pair st rest) x.i x.j)
  by_pairs [] = Ends (NoneUpTo (length st.remainders))

  -- InputIsTaken: an input is left
  abbrev pub by_inputs : Next
  by_inputs = cond (nat_lt st.taken st.given) (Goes (next_taken st)) (by_pairs st.pairs)

  -- GoalIsReduced: there is no current line, and a remainder is reducible
  abbrev pub by_reducible : Option (ℕ × ℕ) → Next
  by_reducible (Some x) = counted (goal_outcome st x.0 x.1) (goal_reduced st x.0 x.1)
  by_reducible None = by_inputs

  -- LineIsReduced: the current line is reducible; LineJoins: it is not
  abbrev pub by_reducer : ℕ → Option ℕ → Next
  by_reducer k (Some j) = counted (line_outcome st k j) (line_reduced st k j)
  by_reducer k None = Goes (joined st k)

  -- LineIsZero: the current line is zero
  abbrev pub by_line : ℕ → Polynomial → Next
  by_line k [] = Goes (dropped st)
  by_line k (e ∷ p) = by_reducer k (reducer st.lines st.basis (e ∷ p))

  abbrev pub by_current : Option ℕ → Next
  by_current None = by_reducible (first_reducible st.lines st.basis 0 st.remainders)
  by_current (Some k) = by_line k (line_at st.lines k)

  -- GoalIsZero: some power of the goal came to zero
  abbrev pub by_power : Option ℕ → Next
  by_power (Some r) = Ends (Proved r)
  by_power None = by_current st.current

  -- the one step
  unfoldable pub next : Next
  next = by_power (zero_power st.remainders)
