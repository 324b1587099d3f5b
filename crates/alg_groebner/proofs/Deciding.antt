-- Each state has a rule that is taken, in order or not, and it keeps what holds of the states.
use Rattle.std.specs.Prelude.{◌≡◌, ℕ, ◌≤◌, ◌⊎◌, ◌+◌, List, [], ◌∷◌, Option, Some, None, All}
use Rattle.std.proofs.Common.{refl, sym, subst, ◌∙◌, inl, inr, arith}
use Rattle.std.proofs.lemmas.Bool.{cases_lt}
use Rattle.std.proofs.lemmas.List.Elements.{All-tail}
use Rattle.alg_mono.specs.NumberedPolynomials.{Polynomial}
use Rattle.alg_lines.specs.Lines.{line_at}
use Rattle.alg_groebner.specs.Choices.{remainder_at, first_reducible, zero_power}
use Rattle.alg_groebner.specs.Leads.{reduces}
use Rattle.alg_groebner.specs.Moves.{goal_outcome, goal_reduced, line_outcome, line_reduced, pair_outcome, pair_taken, without_pair}
use Rattle.alg_groebner.specs.Rules.{IsLeast, ReducesIt, IsReducibleAt, Rule, GoalIsZero, GoalIsReduced, LineIsZero, LineIsReduced, LineJoins, InputIsTaken, PairIsTaken, NothingIsLeft, number, Does, Takes}
use Rattle.alg_groebner.specs.Sound.{HasBoth, AreMembers, IsSound}
use Rattle.alg_groebner.specs.State.{State, End, Next, Ends}
use Rattle.alg_groebner.proofs.Found.{none_some}
use Rattle.alg_groebner.proofs.Keeping.{Keeps, counted_kept, line_kept, goal_kept, joined_kept, dropped_kept, taken_kept}
use Rattle.alg_groebner.proofs.Lists.{least_of, least_pair}
use Rattle.alg_groebner.proofs.Ruled.{same_line}
use Rattle.alg_groebner.proofs.Taken.{NoneBelow, extend, none_first, take, zero_least, none_zero, none_reducible, place_least}

-- ---- each rule applies or does not
module _ (limit : ℕ) (st : State) where
  abbrev Decided : Rule → Type 0
  Decided r = ((x : Next) × Does limit st r x) ⊎ ((x : Next) → Does limit st r x → ⊥)

  least_line : (p : Polynomial) → ((j : ℕ) × IsLeast (ReducesIt st p) j) ⊎ ((j : ℕ) → ReducesIt st p j → ⊥)
  least_line p =
      elim (least_of (λ k. reduces (line_at st.lines k) p) st.basis) [
        | inl w ↦ inl (
          w.0,
          record {
            holds = (w.1.inside, w.1.passes);
            least = λ i h. w.1.least i h.0 h.1;
          },
        )
        | inr never ↦ inr (λ j h. never j h.0 h.1)
      ]

  decide : (r : Rule) → Decided r
  decide GoalIsZero =
      elim (zero_power st.remainders) as (λ o. zero_power st.remainders ≡ o → Decided GoalIsZero) [
        | Some r ↦ λ e. inl (Ends (End.Proved r), (r, zero_least st r e, refl))
        | None ↦ λ e. inr (λ x d. none_zero st e d.0 d.1.holds)
      ] refl
  decide GoalIsReduced =
      elim st.current as (λ o. st.current ≡ o → Decided GoalIsReduced) [
        | Some k ↦ λ c. inr (λ x d. none_some k (sym d.2 ∙ c))
        | None ↦ λ c.
            elim (first_reducible st.lines st.basis 0 st.remainders) as
            (λ o. first_reducible st.lines st.basis 0 st.remainders ≡ o → Decided GoalIsReduced) [
              | Some w ↦ λ e. inl (reduced c w.0 w.1 (place_least st w.0 w.1 e))
              | None ↦ λ e. inr (λ x d. none_reducible st e d.0 d.3.holds)
            ] refl
      ] refl
    where
      reduced : st.current ≡ None → (r j : ℕ) → IsLeast (IsReducibleAt st) r →
          (x : Next) × Does limit st GoalIsReduced x
      reduced c r j least =
          elim (least_line (remainder_at st.remainders r).rest) [
            | inl w ↦ (_, (r, w.0, c, least, w.1, refl))
            | inr never ↦ absurd (never least.holds.1 least.holds.2)
          ]
  decide LineIsZero =
      elim st.current as (λ o. st.current ≡ o → Decided LineIsZero) [
        | None ↦ λ c. inr (λ x d. none_some d.0 (sym c ∙ d.1))
        | Some k ↦ λ c.
            elim (line_at st.lines k) as (λ p. line_at st.lines k ≡ p → Decided LineIsZero) [
              | [] ↦ λ e. inl (_, (k, c, e, refl))
              | t ∷ p ↦ λ e. inr (λ x d.
                  let same = same_line st.current d.0 k d.1 c in
                  some_left t p (sym (subst (λ l. line_at st.lines l ≡ []) same d.2) ∙ e))
            ] refl
      ] refl
    where
      some_left : {A : Type 0} (t : A) (p : List A) → [] ≡ t ∷ p → ⊥
      some_left t p e = grind arith
  decide LineIsReduced =
      elim st.current as (λ o. st.current ≡ o → Decided LineIsReduced) [
        | None ↦ λ c. inr (λ x d. none_some d.0 (sym c ∙ d.2))
        | Some k ↦ λ c.
            elim (least_line (line_at st.lines k)) [
              | inl w ↦ inl (_, (k, w.0, c, w.1, refl))
              | inr never ↦ inr (λ x d.
                  let same = same_line st.current d.0 k d.2 c in
                  never d.1 (subst (λ l. ReducesIt st (line_at st.lines l) d.1) same d.3.holds))
            ]
      ] refl
  decide LineJoins =
      elim st.current as (λ o. st.current ≡ o → Decided LineJoins) [
        | None ↦ λ c. inr (λ x d. none_some d.0 (sym c ∙ d.1))
        | Some k ↦ λ c. inl (_, (k, c, refl))
      ] refl
  decide InputIsTaken =
      elim (cases_lt st.taken st.given) [
        | inl h ↦ inl (_, (h, refl))
        | inr h ↦ inr (λ x d. let less = d.0 in omega arith)
      ]
  decide PairIsTaken =
      elim (least_pair st.pairs) [
        | inl w ↦ inl (_, (w.0, w.1, w.2, refl))
        | inr never ↦ inr (λ x d. never (d.0, d.1, d.2))
      ]
  decide NothingIsLeft = inl (_, refl)

  abbrev SomeTaken : Type 0
  SomeTaken = (x : Next) × Takes limit st x

  from : (n : ℕ) (r : Rule) → number r ≡ n → NoneBelow limit st n → (NoneBelow limit st (n + 1) → SomeTaken) →
      SomeTaken
  from n r e none further =
      elim (decide r) [
        | inl d ↦ (d.0, take limit st r d.0 d.1 (subst (NoneBelow limit st) (sym e) none))
        | inr never ↦ further (extend limit st n r e none never)
      ]

  -- the first rule that applies
  pub some_taken : SomeTaken
  some_taken =
      from 1 GoalIsZero refl (none_first limit st) (λ a. from 2 GoalIsReduced refl a (λ b. from 3 LineIsZero refl b
      (λ c. from 4 LineIsReduced refl c (λ d. from 5 LineJoins refl d (λ e. from 6 InputIsTaken refl e
      (λ f. from 7 PairIsTaken refl f (λ g. (_, take limit st NothingIsLeft _ refl g))))))))

-- ---- what is taken keeps what holds
module _ (limit : ℕ) (st : State) (s : IsSound limit st) where
  does_kept : (r : Rule) (x : Next) → Does limit st r x →
      ((other : Rule) (y : Next) → Does limit st other y → number r ≤ number other) → Keeps limit st x
  does_kept GoalIsZero x d first = subst (Keeps limit st) (sym d.2) tt
  does_kept GoalIsReduced x d first =
      subst (Keeps limit st) (sym d.5)
      (counted_kept limit st (goal_reduced st d.0 d.1) (goal_outcome st d.0 d.1) (goal_kept limit st d.0 d.1 s))
  does_kept LineIsZero x d first = subst (Keeps limit st) (sym d.3) (dropped_kept limit st d.0 s d.1)
  does_kept LineIsReduced x d first =
      subst (Keeps limit st) (sym d.4)
      (counted_kept limit st (line_reduced st d.0 d.1) (line_outcome st d.0 d.1)
      (λ due. line_kept limit st st.pairs _ d.0 _ d.1 _ s s.pairs s.members due))
  does_kept LineJoins x d first =
      subst (Keeps limit st) (sym d.2)
      (joined_kept limit st d.0 s d.1 (λ z. let low = first LineIsZero _ (d.0, d.1, z, refl) in omega arith))
  does_kept InputIsTaken x d first =
      subst (Keeps limit st) (sym d.1) (taken_kept limit st s (none_current st.current refl) d.0)
    where
      none_current : (o : Option ℕ) → st.current ≡ o → st.current ≡ None
      none_current None e = e
      none_current (Some k) e = absurd (let low = first LineJoins _ (k, e, refl) in omega arith)
  does_kept PairIsTaken x d first =
      subst (Keeps limit st) (sym d.3)
      (counted_kept limit st (pair_taken (without_pair st d.1) d.0.i d.0.j) (pair_outcome st d.0.i d.0.j)
      (λ due. line_kept limit st d.1 _ d.0.i _ d.0.j _ s
      (All-tail (HasBoth st.lines) d.0 d.1 (subst (All (HasBoth st.lines)) d.2.0 s.pairs))
      (All-tail (AreMembers st.basis) d.0 d.1 (subst (All (AreMembers st.basis)) d.2.0 s.members)) due))
  does_kept NothingIsLeft x d first = subst (Keeps limit st) (sym d) tt

  pub taken_keeps : (x : Next) → Takes limit st x → Keeps limit st x
  taken_keeps x t = does_kept t.rule x t.does t.first
