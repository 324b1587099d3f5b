-- What each move of the machine keeps holds in each state of a run.
use Rattle.std.specs.Prelude.{◌≡◌, ℕ, ◌-◌, ◌<◌, Bool, true, false, cond, nat_lt, List, [], ◌∷◌, Option, Some, None, length, All, IfSome}
use Rattle.std.proofs.Common.{refl, sym, subst, arith}
use Rattle.std.proofs.lemmas.List.Elements.{All-head}
use Rattle.alg_mono.specs.Monomials.{MAX_DEGREE, degree}
use Rattle.alg_mono.specs.Outcomes.{Outcome}
use Rattle.alg_mono.specs.NumberedPolynomials.{Polynomial}
use Rattle.alg_lines.specs.Lines.{line_at}
use Rattle.alg_pairs.specs.declared.pair.Pair.{Pair}
use Rattle.alg_groebner.specs.Cancelling.{lead_lcm, left_lift, right_lift, cancel_outcome}
use Rattle.alg_groebner.specs.Choices.{remainder_at, reducer, first_reducible, zero_power}
use Rattle.alg_groebner.specs.Follows.{Follows, now, later}
use Rattle.alg_groebner.specs.Leads.{reduces}
use Rattle.alg_groebner.specs.Machine.{made, counted, by_pairs, by_inputs, by_reducible, by_reducer, by_line, by_current, by_power, next}
use Rattle.alg_groebner.specs.Moves.{goal_outcome, goal_reduced, dropped, line_outcome, line_reduced, joined, next_taken, without_pair, pair_outcome, pair_taken}
use Rattle.alg_groebner.specs.Sound.{IsNumber, IsThere, HasBoth, IsSound}
use Rattle.alg_groebner.specs.State.{State, End, Next, Goes, Ends}
use Rattle.alg_groebner.proofs.Chosen.{reducer_says, reducible_says}
use Rattle.alg_groebner.proofs.Keeping.{goes_kept}

-- each move keeps this of a state
pub record IsKept (Holds : State → Type 0) : Type 0 where
  pub goal : (st : State) (r j : ℕ) → Holds st → r < length st.remainders →
      reduces (line_at st.lines j) (remainder_at st.remainders r).rest ≡ true → goal_outcome st r j ≡ Outcome.Fine →
      Holds (goal_reduced st r j)
  pub line : (st : State) (k j : ℕ) → Holds st → IsNumber st.lines k →
      reduces (line_at st.lines j) (line_at st.lines k) ≡ true → line_outcome st k j ≡ Outcome.Fine →
      Holds (line_reduced st k j)
  pub pair : (st : State) (rest : List Pair) (i j : ℕ) → Holds st → IsThere st.lines i → IsThere st.lines j →
      let p = line_at st.lines i in
      let q = line_at st.lines j in
      cancel_outcome (left_lift p q) p (right_lift p q) q ≡ Outcome.Fine →
      Holds (pair_taken (without_pair st rest) i j)
  pub drops : (st : State) → Holds st → Holds (dropped st)
  pub joins : (st : State) (k : ℕ) → Holds st → Holds (joined st k)
  pub takes : (st : State) → Holds st → Holds (next_taken st)

module _ {Holds : State → Type 0} (kept : IsKept Holds) (limit : ℕ) where
  abbrev Then : Next → Type 0
  Then (Goes to) = Holds to
  Then (Ends e) = Unit {0}

  made_then : (to : State) (o : Outcome) → (o ≡ Outcome.Fine → Holds to) → Then (made o to)
  made_then to Outcome.Fine k = k refl
  made_then to Outcome.Range k = tt
  made_then to Outcome.Degree k = tt

  counted_then : (st to : State) (o : Outcome) → (o ≡ Outcome.Fine → Holds to) → Then (counted limit st o to)
  counted_then st to o k =
      elim (nat_lt st.count limit) as (λ b. Then (cond b (made o to) (Ends End.GaveUp))) [
        | true ↦ made_then to o k
        | false ↦ tt
      ]

  DegreeIs : Outcome → Type 0
  DegreeIs Outcome.Fine = ⊥
  DegreeIs Outcome.Range = Unit {0}
  DegreeIs Outcome.Degree = Unit {0}

  not_fine : Outcome.Degree ≡ Outcome.Fine → ⊥
  unfolding DegreeIs
  not_fine e = subst DegreeIs e tt

  pair_fine : (b : Bool) (o : Outcome) → cond b Outcome.Degree o ≡ Outcome.Fine → o ≡ Outcome.Fine
  pair_fine true o e = absurd (not_fine e)
  pair_fine false o e = e

  pairs_then : (st : State) (xs : List Pair) → Holds st → All (HasBoth st.lines) xs → Then (by_pairs limit st xs)
  pairs_then st [] h both = tt
  pairs_then st (x ∷ rest) h both =
      let there = All-head (HasBoth st.lines) x rest both in
      counted_then st (pair_taken (without_pair st rest) x.i x.j) (pair_outcome st x.i x.j)
      (λ e. kept.pair st rest x.i x.j h there.0 there.1
      (pair_fine (nat_lt MAX_DEGREE (degree (lead_lcm (line_at st.lines x.i) (line_at st.lines x.j)))) _ e))

  inputs_then : (st : State) → IsSound limit st → Holds st → Then (by_inputs limit st)
  inputs_then st s h =
      elim (nat_lt st.taken st.given) as (λ b. Then (cond b (Goes (next_taken st)) (by_pairs limit st st.pairs))) [
        | true ↦ kept.takes st h
        | false ↦ pairs_then st st.pairs h s.pairs
      ]

  reducible_then : (st : State) (o : Option (ℕ × ℕ)) → first_reducible st.lines st.basis 0 st.remainders ≡ o →
      IsSound limit st → Holds st → Then (by_reducible limit st o)
  reducible_then st None e s h = inputs_then st s h
  reducible_then st (Some x) e s h =
      let says = reducible_says st.lines st.basis st.remainders 0 x.0 x.1 e in
      let place : x.0 - 0 ≡ x.0 = omega arith in
      let low = says.1 in
      counted_then st (goal_reduced st x.0 x.1) (goal_outcome st x.0 x.1)
      (λ fine. kept.goal st x.0 x.1 h (omega arith)
      (subst (λ r. reduces (line_at st.lines x.1) (remainder_at st.remainders r).rest ≡ true) place says.2) fine)

  reducer_then : (st : State) (k : ℕ) (p : Polynomial) (o : Option ℕ) → reducer st.lines st.basis p ≡ o →
      line_at st.lines k ≡ p → IsNumber st.lines k → Holds st → Then (by_reducer limit st k o)
  reducer_then st k p None e is n h = kept.joins st k h
  reducer_then st k p (Some j) e is n h =
      let says = reducer_says st.lines st.basis p j e in
      counted_then st (line_reduced st k j) (line_outcome st k j)
      (λ fine. kept.line st k j h n
      (subst (λ (q : Polynomial). reduces (line_at st.lines j) q ≡ true) (sym is) says) fine)

  line_then : (st : State) (k : ℕ) (p : Polynomial) → line_at st.lines k ≡ p → IsNumber st.lines k → Holds st →
      Then (by_line limit st k p)
  line_then st k [] is n h = kept.drops st h
  line_then st k (e ∷ p) is n h = reducer_then st k (e ∷ p) (reducer st.lines st.basis (e ∷ p)) refl is n h

  current_then : (st : State) (o : Option ℕ) → IfSome o (IsNumber st.lines) → IsSound limit st → Holds st →
      Then (by_current limit st o)
  current_then st None c s h = reducible_then st (first_reducible st.lines st.basis 0 st.remainders) refl s h
  current_then st (Some k) c s h = line_then st k (line_at st.lines k) refl c h

  power_then : (st : State) (o : Option ℕ) → IsSound limit st → Holds st → Then (by_power limit st o)
  power_then st None s h = current_then st st.current s.current s h
  power_then st (Some r) s h = tt

  goes_then : (st to : State) → IsSound limit st → Holds st → next limit st ≡ Goes to → Holds to
  unfolding next
  goes_then st to s h e = subst Then e (power_then st (zero_power st.remainders) s h)

  -- it holds in the last state of a run if it does in the first
  pub run_keeps : (st last : State) (e : End) → Follows limit st last e → IsSound limit st → Holds st → Holds last
  run_keeps st last e (now n) s h = h
  run_keeps st last e (later {to = to} n r) s h =
      run_keeps to last e r ((goes_kept limit st to s n).0) (goes_then st to s h n)
