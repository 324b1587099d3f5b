-- The moves of the search machine, and which rules on norms and degrees they break.
use Rattle.std.specs.Prelude.{ℕ, ◌+◌, List, [], ◌∷◌, ◌++◌, Some, None, length, slice_set}
use Rattle.std.specs.Ordering.{nat_cmp}
use Rattle.std.specs.BTreeSet.{insert_key}
use Rattle.alg_mono.specs.Outcomes.{Outcome}
use Rattle.alg_mono.specs.Mono.{Monomial}
use Rattle.alg_lines.specs.Lines.{line_at}
use Rattle.alg_pairs.specs.declared.pair.Pair.{Pair}
use Rattle.alg_groebner.specs.Cancelling.{quotient, reduced, reduce_outcome, left_lift, right_lift, s_polynomial, s_outcome}
use Rattle.alg_groebner.specs.Choices.{remainder_at, with_pairs}
use Rattle.alg_groebner.specs.State.{State}
use Rattle.alg_groebner.specs.declared.cancel.Cancelled.{Cancelled}
use Rattle.alg_groebner.specs.declared.remainder.Remainder.{Remainder}

-- a new line, d*L = a*m*L_i - b*n*L_j, which becomes the current one; the move is counted
unfoldable pub with_line : State → Monomial → ℕ → Monomial → ℕ → Cancelled → State
with_line st m i n j c = record st {
  lines = st.lines ++ c.poly ∷ [];
  made = st.made ++ (record { a = c.a; m = m; i = i; b = c.b; n = n; j = j; d = c.d }) ∷ [];
  current = Some (length st.lines + 1);
  count = st.count + 1;
}

-- a remainder after one more step
unfoldable pub stepped : Remainder → Monomial → ℕ → Cancelled → Remainder
stepped g n j c = record {
  rest = c.poly;
  steps = g.steps ++ (record { a = c.a; b = c.b; n = n; j = j; d = c.d }) ∷ [];
}

module _ (st : State) where
  -- GoalIsReduced: the remainder at place r is reduced by line j; the move is counted
  abbrev pub goal_outcome : ℕ → ℕ → Outcome
  goal_outcome r j = reduce_outcome (remainder_at st.remainders r).rest (line_at st.lines j)

  abbrev pub goal_reduced : ℕ → ℕ → State
  goal_reduced r j =
      let g = remainder_at st.remainders r in
      let q = line_at st.lines j in
      record st {
        remainders = slice_set st.remainders r (stepped g (quotient g.rest q) j (reduced g.rest q));
        count = st.count + 1;
      }

  -- LineIsZero: there is no current line any more
  abbrev pub dropped : State
  dropped = record st { current = None }

  -- LineIsReduced: the current line k is reduced by line j
  abbrev pub line_outcome : ℕ → ℕ → Outcome
  line_outcome k j = reduce_outcome (line_at st.lines k) (line_at st.lines j)

  abbrev pub line_reduced : ℕ → ℕ → State
  line_reduced k j =
      let p = line_at st.lines k in
      let q = line_at st.lines j in
      with_line st [] k (quotient p q) j (reduced p q)

  -- LineJoins: the current line k joins the basis, with a pair with each other member whose lead is not
  -- coprime to its own
  abbrev pub joined : ℕ → State
  joined k = record st {
    basis = insert_key nat_cmp st.basis k;
    pairs = with_pairs st.lines k st.basis st.pairs;
    current = None;
  }

  -- InputIsTaken: the next hypothesis is the current line
  abbrev pub next_taken : State
  next_taken = record st { taken = st.taken + 1; current = Some (st.taken + 1) }

  -- PairIsTaken: the pair is removed, and the S-polynomial of its lines i < j is the current line
  abbrev pub without_pair : List Pair → State
  without_pair rest = record st { pairs = rest }

  abbrev pub pair_outcome : ℕ → ℕ → Outcome
  pair_outcome i j = s_outcome (line_at st.lines i) (line_at st.lines j)

  abbrev pub pair_taken : ℕ → ℕ → State
  pair_taken i j =
      let p = line_at st.lines i in
      let q = line_at st.lines j in
      with_line st (left_lift p q) i (right_lift p q) j (s_polynomial p q)
