-- Each state in order has a rule that is taken: what it does is what is computed.
use Rattle.std.specs.Prelude.{◌≡◌, ℕ, ◌+◌, ◌-◌, ◌<◌, ◌≤◌, true, false, cond, List, [], ◌∷◌, Option, Some, None, length}
use Rattle.std.proofs.Common.{refl, sym, ap, subst, ◌∙◌, inl, inr, arith}
use Rattle.std.proofs.lemmas.Bool.{cases_lt}
use Rattle.alg_mono.specs.NumberedPolynomials.{Polynomial}
use Rattle.alg_mono.specs.Outcomes.{is_nothing}
use Rattle.alg_lines.specs.Lines.{line_at}
use Rattle.alg_pairs.specs.declared.pair.Pair.{Pair}
use Rattle.alg_groebner.specs.Choices.{remainder_at, reducer, first_reducible, zero_power}
use Rattle.alg_groebner.specs.Leads.{reduces}
use Rattle.alg_groebner.specs.Machine.{by_pairs, by_inputs, by_reducible, by_reducer, by_line, by_current, by_power, next}
use Rattle.alg_groebner.specs.Moves.{next_taken}
use Rattle.alg_groebner.specs.Rules.{IsLeast, IsZeroPower, ReducesIt, IsReducibleAt, Rule, GoalIsZero, GoalIsReduced, LineIsZero, LineIsReduced, LineJoins, InputIsTaken, PairIsTaken, NothingIsLeft, number, Does, Takes, ArePairsRising, IsInOrder}
use Rattle.alg_groebner.specs.State.{State, Next, Goes}
use Rattle.alg_groebner.specs.declared.remainder.Remainder.{Remainder}
use Rattle.alg_groebner.proofs.Adding.{is_less, not_less}
use Rattle.alg_groebner.proofs.Chosen.{reducer_says}
use Rattle.alg_groebner.proofs.Found.{none_some}
use Rattle.alg_groebner.proofs.Least.{find_first, find_some, find_none, position_first, position_none, reducible_first, reducible_none}
use Rattle.alg_groebner.proofs.Ruled.{same_rule, same_line}

-- ---- at least one
module _ (limit : ℕ) (st : State) where
  -- no rule with a number below n applies
  abbrev pub NoneBelow : ℕ → Type 0
  NoneBelow n = (other : Rule) (y : Next) → Does limit st other y → n ≤ number other

  pub extend : (n : ℕ) (r : Rule) → number r ≡ n → NoneBelow n → ((y : Next) → Does limit st r y → ⊥) →
      NoneBelow (n + 1)
  extend n r e none never other y d =
      elim (cases_lt n (number other)) [
        | inl h ↦ omega arith
        | inr h ↦
            let low = none other y d in
            let same = same_rule other r (omega arith) in
            absurd (never y (subst (λ s. Does limit st s y) same d))
      ]

  pub none_first : NoneBelow 1
  none_first GoalIsZero y d = omega arith
  none_first GoalIsReduced y d = omega arith
  none_first LineIsZero y d = omega arith
  none_first LineIsReduced y d = omega arith
  none_first LineJoins y d = omega arith
  none_first InputIsTaken y d = omega arith
  none_first PairIsTaken y d = omega arith
  none_first NothingIsLeft y d = omega arith

  pub take : (r : Rule) (x : Next) → Does limit st r x → NoneBelow (number r) → Takes limit st x
  take r x d none = record { rule = r; does = d; first = none }

-- ---- what is chosen is the least
nothing_is : (p : Polynomial) → is_nothing p ≡ true → p ≡ []
nothing_is [] e = refl
nothing_is (x ∷ p) e = absurd (let f : false ≡ true = e in grind arith)

is_nothing_if : (p : Polynomial) → p ≡ [] → is_nothing p ≡ true
is_nothing_if p e = ap is_nothing e

module _ (st : State) where
  pub zero_least : (r : ℕ) → zero_power st.remainders ≡ Some r → IsLeast (IsZeroPower st) r
  zero_least r e =
      let w = position_first (λ (g : Remainder). is_nothing g.rest) 1 st.remainders r e in
      let is = w.is in
      let inside = w.inside in
      let there : w.place ≡ r - 1 = omega arith in
      record {
        holds = (
          omega arith,
          omega arith,
          ap (λ k. (remainder_at st.remainders k).rest) (sym there) ∙ nothing_is _ w.passes,
        );
        least = λ j h.
            let low = h.0 in
            let high = h.1 in
            let least = w.least (j - 1) (omega arith) (is_nothing_if _ h.2) in
            omega arith;
      }

  pub none_zero : zero_power st.remainders ≡ None → (r : ℕ) → IsZeroPower st r → ⊥
  none_zero e r h =
      let low = h.0 in
      let high = h.1 in
      position_none (λ (g : Remainder). is_nothing g.rest) 1 st.remainders e (r - 1) (omega arith)
      (is_nothing_if _ h.2)

  pub none_reduces : (p : Polynomial) → reducer st.lines st.basis p ≡ None → (j : ℕ) → ReducesIt st p j → ⊥
  none_reduces p e j h = find_none (λ k. reduces (line_at st.lines k) p) st.basis e j h.0 h.1

  pub none_reducible : first_reducible st.lines st.basis 0 st.remainders ≡ None → (r : ℕ) → IsReducibleAt st r → ⊥
  none_reducible e r h =
      none_reduces (remainder_at st.remainders r).rest
      (reducible_none st.lines st.basis 0 st.remainders e r h.0) h.1 h.2

  place_reducer : (r j : ℕ) → first_reducible st.lines st.basis 0 st.remainders ≡ Some (r, j) →
      reducer st.lines st.basis (remainder_at st.remainders r).rest ≡ Some j
  place_reducer r j e =
      let w = reducible_first st.lines st.basis 0 st.remainders r j e in
      let is = w.is in
      let same : w.place ≡ r = omega arith in
      subst (λ k. reducer st.lines st.basis (remainder_at st.remainders k).rest ≡ Some j) same w.by

  -- the place that is found is the least, whatever the order of the basis
  pub place_least : (r j : ℕ) → first_reducible st.lines st.basis 0 st.remainders ≡ Some (r, j) →
      IsLeast (IsReducibleAt st) r
  place_least r j e =
      let w = reducible_first st.lines st.basis 0 st.remainders r j e in
      let is = w.is in
      let same : w.place ≡ r = omega arith in
      let by = place_reducer r j e in
      record {
        holds = (
          subst (λ k. k < length st.remainders) same w.inside,
          j,
          (
            find_some (λ k. reduces (line_at st.lines k) (remainder_at st.remainders r).rest) st.basis j by,
            reducer_says st.lines st.basis (remainder_at st.remainders r).rest j by,
          ),
        );
        least = λ k h. subst (λ i. i ≤ k) same (no_later k h w.least);
      }
    where
      no_later : {p : ℕ} (k : ℕ) → IsReducibleAt st k → ((k : ℕ) → k < length st.remainders → (i : ℕ) →
          reducer st.lines st.basis (remainder_at st.remainders k).rest ≡ Some i → p ≤ k) → p ≤ k
      no_later {p = p} k h least =
          elim (reducer st.lines st.basis (remainder_at st.remainders k).rest) as
          (λ o. reducer st.lines st.basis (remainder_at st.remainders k).rest ≡ o → p ≤ k) [
            | Some i ↦ λ e. least k h.0 i e
            | None ↦ λ e. absurd (none_reduces (remainder_at st.remainders k).rest e h.1 h.2)
          ] refl

  module _ (s : IsInOrder st) where
    line_least : (p : Polynomial) (j : ℕ) → reducer st.lines st.basis p ≡ Some j → IsLeast (ReducesIt st p) j
    line_least p j e =
        let w = find_first (λ k. reduces (line_at st.lines k) p) 0 st.basis j s.basis e in
        record { holds = (w.inside, w.passes); least = λ i h. w.least i h.0 h.1 }

    reducible_least : (r j : ℕ) → first_reducible st.lines st.basis 0 st.remainders ≡ Some (r, j) →
        IsLeast (IsReducibleAt st) r × IsLeast (ReducesIt st (remainder_at st.remainders r).rest) j
    reducible_least r j e = (place_least r j e, line_least (remainder_at st.remainders r).rest j (place_reducer r j e))

-- ---- the first rule that applies
module _ (limit : ℕ) (st : State) (s : IsInOrder st) where
  abbrev Below : ℕ → Type 0
  Below n = NoneBelow limit st n

  more : (n : ℕ) (r : Rule) → number r ≡ n → Below n → ((y : Next) → Does limit st r y → ⊥) → Below (n + 1)
  more n r e b never = extend limit st n r e b never

  nothing_left : (x : Pair) (xs : List Pair) → [] ≡ x ∷ xs → ⊥
  nothing_left x xs e = grind arith

  pairs_take : Below 7 → (xs : List Pair) → st.pairs ≡ xs → Takes limit st (by_pairs limit st xs)
  pairs_take b [] e =
      take limit st NothingIsLeft _ refl (more 7 PairIsTaken refl b (λ y d. nothing_left d.0 d.1 (sym e ∙ d.2.0)))
  pairs_take b (x ∷ rest) e =
      take limit st PairIsTaken _ (x, rest, (e, (subst ArePairsRising e s.pairs).0), refl) b

  inputs_take : Below 6 → Takes limit st (by_inputs limit st)
  inputs_take b =
      elim (cases_lt st.taken st.given) [
        | inl h ↦ subst (λ t. Takes limit st (cond t (Goes (next_taken st)) (by_pairs limit st st.pairs)))
            (sym (is_less st.taken st.given h)) (take limit st InputIsTaken _ (h, refl) b)
        | inr h ↦ subst (λ t. Takes limit st (cond t (Goes (next_taken st)) (by_pairs limit st st.pairs)))
            (sym (not_less st.taken st.given h))
            (pairs_take (more 6 InputIsTaken refl b (λ y d. let less = d.0 in omega arith)) st.pairs refl)
      ]

  reducible_take : Below 2 → st.current ≡ None → (o : Option (ℕ × ℕ)) →
      first_reducible st.lines st.basis 0 st.remainders ≡ o → Takes limit st (by_reducible limit st o)
  reducible_take b c (Some x) e =
      let least = reducible_least st s x.0 x.1 e in
      take limit st GoalIsReduced _ (x.0, x.1, c, least.0, least.1, refl) b
  reducible_take b c None e =
      let three = more 2 GoalIsReduced refl b (λ y d. none_reducible st e d.0 d.3.holds) in
      let four = more 3 LineIsZero refl three (λ y d. none_some d.0 (sym c ∙ d.1)) in
      let five = more 4 LineIsReduced refl four (λ y d. none_some d.0 (sym c ∙ d.2)) in
      inputs_take (more 5 LineJoins refl five (λ y d. none_some d.0 (sym c ∙ d.1)))

  reducer_take : Below 4 → (k : ℕ) → st.current ≡ Some k → (o : Option ℕ) →
      reducer st.lines st.basis (line_at st.lines k) ≡ o → Takes limit st (by_reducer limit st k o)
  reducer_take b k c (Some j) e =
      take limit st LineIsReduced _ (k, j, c, line_least st s (line_at st.lines k) j e, refl) b
  reducer_take b k c None e =
      take limit st LineJoins _ (k, c, refl) (more 4 LineIsReduced refl b (λ y d.
      let same = same_line st.current d.0 k d.2 c in
      let there = subst (λ l. ReducesIt st (line_at st.lines l) d.1) same d.3.holds in
      none_reduces st (line_at st.lines k) e d.1 there))

  line_take : Below 3 → (k : ℕ) → st.current ≡ Some k → (p : Polynomial) → line_at st.lines k ≡ p →
      Takes limit st (by_line limit st k p)
  line_take b k c [] e = take limit st LineIsZero _ (k, c, e, refl) b
  line_take b k c (x ∷ p) e =
      reducer_take (more 3 LineIsZero refl b (λ y d.
      let same = same_line st.current d.0 k d.1 c in
      some_left (sym (subst (λ l. line_at st.lines l ≡ []) same d.2) ∙ e)))
      k c (reducer st.lines st.basis (x ∷ p)) (ap (reducer st.lines st.basis) e)
    where
      some_left : [] ≡ x ∷ p → ⊥
      some_left e = grind arith

  current_take : Below 2 → (o : Option ℕ) → st.current ≡ o → Takes limit st (by_current limit st o)
  current_take b None c = reducible_take b c (first_reducible st.lines st.basis 0 st.remainders) refl
  current_take b (Some k) c =
      line_take (more 2 GoalIsReduced refl b (λ y d. none_some k (sym d.2 ∙ c))) k c (line_at st.lines k) refl

  power_take : (o : Option ℕ) → zero_power st.remainders ≡ o → Takes limit st (by_power limit st o)
  power_take (Some r) e = take limit st GoalIsZero _ (r, zero_least st r e, refl) (none_first limit st)
  power_take None e =
      current_take (more 1 GoalIsZero refl (none_first limit st) (λ y d. none_zero st e d.0 d.1.holds)) st.current refl

  pub next_taken_is : Takes limit st (next limit st)
  unfolding next
  next_taken_is = power_take (zero_power st.remainders) refl
