-- At most one rule is taken, with at most one next state or end.
use Rattle.std.specs.Prelude.{◌≡◌, ℕ, ◌==◌, cond, List, ◌∷◌, Option, Some}
use Rattle.std.proofs.Common.{refl, sym, ap, subst, ◌∙◌, arith}
use Rattle.alg_lines.specs.Lines.{line_at}
use Rattle.alg_pairs.specs.declared.pair.Pair.{Pair}
use Rattle.alg_groebner.specs.Choices.{remainder_at}
use Rattle.alg_groebner.specs.Machine.{counted}
use Rattle.alg_groebner.specs.Moves.{goal_outcome, goal_reduced, line_outcome, line_reduced, joined, without_pair, pair_outcome, pair_taken}
use Rattle.alg_groebner.specs.Rules.{IsLeast, ReducesIt, Rule, GoalIsZero, GoalIsReduced, LineIsZero, LineIsReduced, LineJoins, InputIsTaken, PairIsTaken, NothingIsLeft, number, Does, Takes}
use Rattle.alg_groebner.specs.State.{State, End, Next, Goes, Ends}
use Rattle.alg_groebner.proofs.Found.{same_some}

-- ---- at most one
one_least : {P : ℕ → Type 0} (a b : ℕ) → IsLeast P a → IsLeast P b → a ≡ b
one_least a b g h =
    let low = g.least b h.holds in
    let high = h.least a g.holds in
    omega arith

rule_of : ℕ → Rule
rule_of n =
    cond (n == 1) GoalIsZero (cond (n == 2) GoalIsReduced (cond (n == 3) LineIsZero (cond (n == 4) LineIsReduced
    (cond (n == 5) LineJoins (cond (n == 6) InputIsTaken (cond (n == 7) PairIsTaken NothingIsLeft))))))

numbered : (r : Rule) → rule_of (number r) ≡ r
unfolding rule_of
numbered GoalIsZero = refl
numbered GoalIsReduced = refl
numbered LineIsZero = refl
numbered LineIsReduced = refl
numbered LineJoins = refl
numbered InputIsTaken = refl
numbered PairIsTaken = refl
numbered NothingIsLeft = refl

pub same_rule : (r s : Rule) → number r ≡ number s → r ≡ s
same_rule r s e = sym (numbered r) ∙ ap rule_of e ∙ numbered s

pub same_line : (o : Option ℕ) (k l : ℕ) → o ≡ Some k → o ≡ Some l → k ≡ l
same_line o k l e f = same_some k l (sym e ∙ f)

same_first : (x y : Pair) (xs ys : List Pair) → ◌≡◌ {A = List Pair} (x ∷ xs) (y ∷ ys) → (x ≡ y) × (xs ≡ ys)
same_first x y xs ys e = (cc e, cc e)

module _ (limit : ℕ) (st : State) where
  one_move : (r : Rule) (x y : Next) → Does limit st r x → Does limit st r y → x ≡ y
  one_move GoalIsZero x y d e =
      let same = one_least d.0 e.0 d.1 e.1 in
      d.2 ∙ ap (λ r. Ends (End.Proved r)) same ∙ sym e.2
  one_move GoalIsReduced x y d e =
      let place = one_least d.0 e.0 d.3 e.3 in
      let there = subst (λ r. IsLeast (ReducesIt st (remainder_at st.remainders r).rest) d.1) place d.4 in
      let line = one_least d.1 e.1 there e.4 in
      d.5 ∙ (λ i. counted limit st (goal_outcome st (place i) (line i)) (goal_reduced st (place i) (line i))) ∙ sym e.5
  one_move LineIsZero x y d e = d.3 ∙ sym e.3
  one_move LineIsReduced x y d e =
      let k = same_line st.current d.0 e.0 d.2 e.2 in
      let there = subst (λ k. IsLeast (ReducesIt st (line_at st.lines k)) d.1) k d.3 in
      let line = one_least d.1 e.1 there e.3 in
      d.4 ∙ (λ i. counted limit st (line_outcome st (k i) (line i)) (line_reduced st (k i) (line i))) ∙ sym e.4
  one_move LineJoins x y d e =
      let k = same_line st.current d.0 e.0 d.1 e.1 in
      d.2 ∙ ap (λ k. Goes (joined st k)) k ∙ sym e.2
  one_move InputIsTaken x y d e = d.1 ∙ sym e.1
  one_move PairIsTaken x y d e =
      let same = same_first d.0 e.0 d.1 e.1 (sym d.2.0 ∙ e.2.0) in
      let p = same.0 in
      let ps = same.1 in
      d.3 ∙ (λ i. counted limit st (pair_outcome st (p i).i (p i).j)
      (pair_taken (without_pair st (ps i)) (p i).i (p i).j)) ∙ sym e.3
  one_move NothingIsLeft x y d e = d ∙ sym e

  pub one_taken : (x y : Next) → Takes limit st x → Takes limit st y → x ≡ y
  one_taken x y t u =
      let low = t.first u.rule y u.does in
      let high = u.first t.rule x t.does in
      let same = same_rule t.rule u.rule (omega arith) in
      one_move u.rule x y (subst (λ r. Does limit st r x) same t.does) u.does
