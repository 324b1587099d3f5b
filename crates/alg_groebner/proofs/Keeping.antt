-- Each step keeps what holds of the states, and leaves less to do.
use Rattle.std.specs.Prelude.{◌≡◌, ◌≢◌, ℕ, ◌<◌, cond, List, [], ◌∷◌, ◌++◌, Option, Some, None, length, All}
use Rattle.std.proofs.Common.{refl, sym, ap, subst, arith, inl, inr}
use Rattle.std.specs.Ordering.{nat_cmp}
use Rattle.std.specs.BTreeSet.{insert_key}
use Rattle.std.proofs.lemmas.Bool.{cases_lt}
use Rattle.std.proofs.lemmas.Map.Views.{All-insert_key}
use Rattle.std.proofs.lemmas.List.{length-append, length-set}
use Rattle.std.proofs.lemmas.List.Elements.{All-tail, All-weaker}
use Rattle.alg_mono.specs.Outcomes.{Outcome}
use Rattle.alg_mono.specs.Mono.{Monomial}
use Rattle.alg_mono.specs.NumberedPolynomials.{Polynomial}
use Rattle.alg_lines.specs.Lines.{line_at}
use Rattle.alg_pairs.specs.declared.pair.Pair.{Pair}
use Rattle.alg_groebner.specs.Cancelling.{quotient, reduced}
use Rattle.alg_groebner.specs.State.{State, End, Next, Goes, Ends}
use Rattle.alg_groebner.specs.Choices.{reducer, first_reducible, zero_power, remainder_at}
use Rattle.alg_groebner.specs.Moves.{with_line, dropped, without_pair, goal_outcome, goal_reduced, line_outcome, line_reduced, joined, next_taken, pair_outcome, pair_taken}
use Rattle.alg_groebner.specs.Machine.{made, counted, by_pairs, by_inputs, by_reducible, by_reducer, by_line, by_current, by_power, next}
use Rattle.alg_groebner.specs.Sound.{IsThere, HasBoth, IsIn, AreMembers, IsSound}
use Rattle.alg_groebner.specs.Runs.{work, current_left}
use Rattle.alg_groebner.specs.declared.cancel.Cancelled.{Cancelled}
use Rattle.alg_groebner.proofs.Adding.{is_less, not_less}
use Rattle.alg_groebner.proofs.Added.{there_longer, both_longer, Both, pairs_with, all_in, in_more, in_new, one_step}

-- ---- the moves
module _ (limit : ℕ) where
  -- the state after is sound, and less is left to do
  abbrev pub Kept : State → State → Type 0
  Kept st to = IsSound limit to × (work limit to < work limit st)

  abbrev pub Keeps : State → Next → Type 0
  Keeps st (Goes to) = Kept st to
  Keeps st (Ends e) = Unit {0}

  pub line_kept : (st : State) (pairs : List Pair) (m : Monomial) (i : ℕ) (n : Monomial) (j : ℕ) (c : Cancelled) →
      IsSound limit st → All (HasBoth st.lines) pairs → All (AreMembers st.basis) pairs → st.count < limit →
      Kept st (with_line (without_pair st pairs) m i n j c)
  unfolding with_line
  line_kept st pairs m i n j c s h members due =
      let lines = s.lines in
      let made = s.made in
      let longer = length-append st.lines (c.poly ∷ []) in
      let more = length-append st.made ((record { a = c.a; m = m; i = i; b = c.b; n = n; j = j; d = c.d }) ∷ []) in (
        record {
          hypotheses = s.hypotheses;
          limited = s.limited;
          counted = omega arith;
          lines = omega arith;
          made = omega arith;
          spent = let e = s.spent in omega arith;
          taken = s.taken;
          powers = s.powers;
          basis = All-weaker (IsThere st.lines) (IsThere (st.lines ++ c.poly ∷ [])) (there_longer st.lines c.poly)
              st.basis s.basis;
          pairs = All-weaker (HasBoth st.lines) (HasBoth (st.lines ++ c.poly ∷ [])) (both_longer st.lines c.poly)
              pairs h;
          members = members;
          current = (omega arith, omega arith);
        },
        omega arith,
      )

  pub goal_kept : (st : State) (r j : ℕ) → IsSound limit st → st.count < limit → Kept st (goal_reduced st r j)
  goal_kept st r j s due = (
    record {
      hypotheses = s.hypotheses;
      limited = s.limited;
      counted = omega arith;
      lines = s.lines;
      made = let m = s.made in omega arith;
      spent =
          let e = s.spent in
          let m = one_step st.remainders r (quotient (remainder_at st.remainders r).rest (line_at st.lines j)) j
          (reduced (remainder_at st.remainders r).rest (line_at st.lines j)) in
          omega arith;
      taken = s.taken;
      powers =
          let p = s.powers in
          let e : length ((goal_reduced st r j).remainders) ≡ length st.remainders = length-set st.remainders r _ in
          omega arith;
      basis = s.basis;
      pairs = s.pairs;
      members = s.members;
      current = s.current;
    },
    omega arith,
  )

  pub joined_kept : (st : State) (k : ℕ) → IsSound limit st → st.current ≡ Some k → IsThere st.lines k → Kept st
      (joined st k)
  joined_kept st k s e there = (
    record {
      hypotheses = s.hypotheses;
      limited = s.limited;
      counted = s.counted;
      lines = s.lines;
      made = s.made;
      spent = s.spent;
      taken = s.taken;
      powers = s.powers;
      basis = All-insert_key nat_cmp k (IsThere st.lines) st.basis s.basis there;
      pairs = pairs_with (IsThere st.lines) st.lines k st.basis st.pairs there s.basis s.pairs;
      members =
          let P = IsIn (insert_key nat_cmp st.basis k) in
          pairs_with P st.lines k st.basis st.pairs (in_new st.basis k)
          (All-weaker (IsIn st.basis) P (in_more st.basis k) st.basis (all_in st.basis))
          (All-weaker (AreMembers st.basis) (Both P) (λ x h. (in_more st.basis k x.i h.0, in_more st.basis k x.j h.1))
          st.pairs s.members);
      current = tt;
    },
    (let f = ap current_left e in omega arith),
  )

  pub dropped_kept : (st : State) (k : ℕ) → IsSound limit st → st.current ≡ Some k → Kept st (dropped st)
  dropped_kept st k s e = (
    record {
      hypotheses = s.hypotheses;
      limited = s.limited;
      counted = s.counted;
      lines = s.lines;
      made = s.made;
      spent = s.spent;
      taken = s.taken;
      powers = s.powers;
      basis = s.basis;
      pairs = s.pairs;
      members = s.members;
      current = tt;
    },
    (let f = ap current_left e in omega arith),
  )

  pub taken_kept : (st : State) → IsSound limit st → st.current ≡ None → st.taken < st.given → Kept st (next_taken st)
  taken_kept st s e more = (
    record {
      hypotheses = s.hypotheses;
      limited = s.limited;
      counted = s.counted;
      lines = s.lines;
      made = s.made;
      spent = s.spent;
      taken = omega arith;
      powers = s.powers;
      basis = s.basis;
      pairs = s.pairs;
      members = s.members;
      current = (omega arith, (let l = s.lines in omega arith));
    },
    omega arith,
  )

  -- ---- the rules
  made_kept : (st to : State) (o : Outcome) → Kept st to → Keeps st (made o to)
  made_kept st to Outcome.Fine k = k
  made_kept st to Outcome.Range k = tt
  made_kept st to Outcome.Degree k = tt

  pub counted_kept : (st to : State) (o : Outcome) → (st.count < limit → Kept st to) → Keeps st (counted limit st o to)
  counted_kept st to o k =
      elim (cases_lt st.count limit) [
        | inl h ↦ subst (λ b. Keeps st (cond b (made o to) (Ends End.GaveUp))) (sym (is_less st.count limit h))
            (made_kept st to o (k h))
        | inr h ↦ subst (λ b. Keeps st (cond b (made o to) (Ends End.GaveUp))) (sym (not_less st.count limit h)) tt
      ]

  pairs_kept : (st : State) (xs : List Pair) → IsSound limit st → All (HasBoth st.lines) xs → All
      (AreMembers st.basis) xs →
      Keeps st (by_pairs limit st xs)
  pairs_kept st [] s h m = tt
  pairs_kept st (x ∷ rest) s h m =
      counted_kept st (pair_taken (without_pair st rest) x.i x.j) (pair_outcome st x.i x.j)
      (λ due. line_kept st rest _ x.i _ x.j _ s (All-tail (HasBoth st.lines) x rest h)
      (All-tail (AreMembers st.basis) x rest m) due)

  inputs_kept : (st : State) → IsSound limit st → st.current ≡ None → Keeps st (by_inputs limit st)
  inputs_kept st s e =
      elim (cases_lt st.taken st.given) [
        | inl h ↦ subst (λ b. Keeps st (cond b (Goes (next_taken st)) (by_pairs limit st st.pairs)))
            (sym (is_less st.taken st.given h)) (taken_kept st s e h)
        | inr h ↦ subst (λ b. Keeps st (cond b (Goes (next_taken st)) (by_pairs limit st st.pairs)))
            (sym (not_less st.taken st.given h)) (pairs_kept st st.pairs s s.pairs s.members)
      ]

  reducible_kept : (st : State) (o : Option (ℕ × ℕ)) → IsSound limit st → st.current ≡ None → Keeps st
      (by_reducible limit st o)
  reducible_kept st None s e = inputs_kept st s e
  reducible_kept st (Some x) s e = counted_kept st (goal_reduced st x.0 x.1) (goal_outcome st x.0 x.1)
      (goal_kept st x.0 x.1 s)

  reducer_kept : (st : State) (k : ℕ) (o : Option ℕ) → IsSound limit st → st.current ≡ Some k → IsThere st.lines k →
      Keeps st (by_reducer limit st k o)
  reducer_kept st k None s e there = joined_kept st k s e there
  reducer_kept st k (Some j) s e there =
      counted_kept st (line_reduced st k j) (line_outcome st k j)
      (λ due. line_kept st st.pairs _ k _ j _ s s.pairs s.members due)

  line_rules_kept : (st : State) (k : ℕ) (p : Polynomial) → IsSound limit st → st.current ≡ Some k → line_at st.lines
      k ≡ p →
      Keeps st (by_line limit st k p)
  line_rules_kept st k [] s e l = dropped_kept st k s e
  line_rules_kept st k (f ∷ p) s e l =
      reducer_kept st k (reducer st.lines st.basis (f ∷ p)) s e
      (subst (λ (q : Polynomial). q ≢ []) (sym l) (λ z. grind arith))

  current_kept : (st : State) (o : Option ℕ) → IsSound limit st → st.current ≡ o → Keeps st (by_current limit st o)
  current_kept st None s e = reducible_kept st (first_reducible st.lines st.basis 0 st.remainders) s e
  current_kept st (Some k) s e = line_rules_kept st k (line_at st.lines k) s e refl

  power_kept : (st : State) (o : Option ℕ) → IsSound limit st → Keeps st (by_power limit st o)
  power_kept st None s = current_kept st st.current s refl
  power_kept st (Some r) s = tt

  pub next_kept : (st : State) → IsSound limit st → Keeps st (next limit st)
  unfolding next
  next_kept st s = power_kept st (zero_power st.remainders) s

  pub goes_kept : (st to : State) → IsSound limit st → next limit st ≡ Goes to → IsSound limit to ×
      (work limit to < work limit st)
  goes_kept st to s e = subst (Keeps st) e (next_kept st s)
