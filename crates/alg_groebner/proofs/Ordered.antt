-- The states of a search are in order, so that its run is the computed one.
use Rattle.std.specs.Prelude.{◌≡◌, ℕ, ◌+◌, ◌≤◌, true, false, cond, nat_lt, List, [], ◌∷◌}
use Rattle.std.proofs.Common.{refl, sym, ap, subst, ◌∙◌, arith}
use Rattle.std.specs.declared.cmp.Ordering.TheVariants.{Less, Equal, Greater}
use Rattle.std.specs.Ordering.{match_ordering, ordering_reverse, nat_cmp}
use Rattle.std.specs.BTreeSet.{insert_key}
use Rattle.std.proofs.lemmas.Map.Views.{All-insert_key}
use Rattle.std.proofs.lemmas.List.Elements.{All-nil, All-cons, All-weaker}
use Rattle.alg_mono.specs.NumberedPolynomials.{Polynomial}
use Rattle.alg_mono.specs.Outcomes.{Outcome}
use Rattle.alg_pairs.specs.Order.{pair_cmp}
use Rattle.alg_pairs.specs.OrderLaws.{pair_total}
use Rattle.alg_pairs.specs.declared.pair.Pair.{Pair}
use Rattle.alg_groebner.specs.Choices.{pair_of, with_pair, with_pairs}
use Rattle.alg_groebner.specs.Leads.{lead, coprime}
use Rattle.alg_lines.specs.Lines.{line_at}
use Rattle.alg_groebner.specs.Follows as follows
use Rattle.alg_groebner.specs.Follows.{Follows}
use Rattle.alg_groebner.specs.Machine.{made, counted, next}
use Rattle.alg_groebner.specs.Moves.{with_line}
use Rattle.alg_groebner.specs.Rules.{Rule, GoalIsZero, GoalIsReduced, LineIsZero, LineIsReduced, LineJoins, InputIsTaken, PairIsTaken, NothingIsLeft, Does, Takes, Rises, ArePairsRising, IsInOrder}
use Rattle.alg_groebner.specs.Runs.{Runs, ends, goes, first_state}
use Rattle.alg_groebner.specs.State.{State, End, Next, Goes, Ends}
use Rattle.alg_groebner.specs.declared.remainder.Remainder.{Remainder}
use Rattle.alg_groebner.proofs.Ruled.{one_taken}
use Rattle.alg_groebner.proofs.Taken.{next_taken_is}

-- ---- lists in order
less_lines : (a b : ℕ) → nat_cmp a b ≡ Less → (a + 1) ≤ b
less_lines a b e = grind arith

greater_lines : (a b : ℕ) → nat_cmp a b ≡ Greater → (b + 1) ≤ a
greater_lines a b e = grind arith

rises-insert : (n : ℕ) (ks : List ℕ) (k : ℕ) → n ≤ k → Rises n ks → Rises n (insert_key nat_cmp ks k)
rises-insert n [] k l r = (l, tt)
rises-insert n (j ∷ ks) k l r =
    elim (nat_cmp k j) as (λ o. nat_cmp k j ≡ o →
    Rises n (match_ordering o (k ∷ j ∷ ks) (j ∷ ks) (j ∷ insert_key nat_cmp ks k))) [
      | Less ↦ λ e. (l, (less_lines k j e, r.1))
      | Equal ↦ λ e. r
      | Greater ↦ λ e. (r.0, rises-insert (j + 1) ks k (greater_lines k j e) r.1)
    ] refl

pairs-insert : (xs : List Pair) (x : Pair) → ArePairsRising xs → ArePairsRising (insert_key pair_cmp xs x)
pairs-insert [] x r = (All-nil (λ y. pair_cmp x y ≡ Less), tt)
pairs-insert (y ∷ xs) x r =
    elim (pair_cmp x y) as (λ o. pair_cmp x y ≡ o →
    ArePairsRising (match_ordering o (x ∷ y ∷ xs) (y ∷ xs) (y ∷ insert_key pair_cmp xs x))) [
      | Less ↦ λ e. (
        All-cons (λ z. pair_cmp x z ≡ Less) y xs e
            (All-weaker (λ z. pair_cmp y z ≡ Less) (λ z. pair_cmp x z ≡ Less)
            (λ z h. pair_total.trans x y z e h) xs r.0),
        r,
      )
      | Equal ↦ λ e. r
      | Greater ↦ λ e. (
        All-insert_key pair_cmp x (λ z. pair_cmp y z ≡ Less) xs r.0
            (pair_total.antisymm y x ∙ ap ordering_reverse e),
        pairs-insert xs x r.1,
      )
    ] refl

one_pair : (lines : List Polynomial) (i k : ℕ) (xs : List Pair) → ArePairsRising xs →
    ArePairsRising (with_pair lines i k xs)
unfolding with_pair
one_pair lines i k xs r =
    elim (coprime (lead (line_at lines i)) (lead (line_at lines k))) as
    (λ t. ArePairsRising (cond t xs (insert_key pair_cmp xs (pair_of lines i k)))) [
      | true ↦ r
      | false ↦ pairs-insert xs (pair_of lines i k) r
    ]

pairs-with : (lines : List Polynomial) (k : ℕ) (is : List ℕ) (xs : List Pair) → ArePairsRising xs →
    ArePairsRising (with_pairs lines k is xs)
pairs-with lines k [] xs r = r
pairs-with lines k (i ∷ is) xs r = pairs-with lines k is (with_pair lines i k xs) (one_pair lines i k xs r)

-- ---- steps
Keeps : Next → Type 0
Keeps (Goes to) = IsInOrder to
Keeps (Ends e) = Unit {0}

module _ (limit : ℕ) (st : State) (s : IsInOrder st) where
  counted_keeps : (o : Outcome) (to : State) → IsInOrder to → Keeps (counted limit st o to)
  unfolding Keeps
  counted_keeps o to h =
      elim (nat_lt st.count limit) as (λ t. Keeps (cond t (made o to) (Ends End.GaveUp))) [
        | true ↦ made_keeps o
        | false ↦ tt
      ]
    where
      made_keeps : (o : Outcome) → Keeps (made o to)
      made_keeps Outcome.Fine = h
      made_keeps Outcome.Range = tt
      made_keeps Outcome.Degree = tt

  does_keep : (r : Rule) (x : Next) → Does limit st r x → Keeps x
  unfolding Keeps with_line
  does_keep GoalIsZero x d = subst Keeps (sym d.2) tt
  does_keep GoalIsReduced x d = subst Keeps (sym d.5) (counted_keeps _ _ (record { basis = s.basis; pairs = s.pairs }))
  does_keep LineIsZero x d = subst Keeps (sym d.3) (record { basis = s.basis; pairs = s.pairs })
  does_keep LineIsReduced x d = subst Keeps (sym d.4) (counted_keeps _ _ (record { basis = s.basis; pairs = s.pairs }))
  does_keep LineJoins x d = subst Keeps (sym d.2) (record {
    basis = rises-insert 0 st.basis d.0 (omega arith) s.basis;
    pairs = pairs-with st.lines d.0 st.basis st.pairs s.pairs;
  })
  does_keep InputIsTaken x d = subst Keeps (sym d.1) (record { basis = s.basis; pairs = s.pairs })
  does_keep PairIsTaken x d = subst Keeps (sym d.3) (counted_keeps _ _ (record {
    basis = s.basis;
    pairs = (subst ArePairsRising d.2.0 s.pairs).1;
  }))
  does_keep NothingIsLeft x d = subst Keeps (sym d) tt

  pub stays : (to : State) → Takes limit st (Goes to) → IsInOrder to
  unfolding Keeps
  stays to t = does_keep t.rule (Goes to) t.does

pub first_in_order : (hyps : List Polynomial) (gs : List Remainder) → IsInOrder (first_state hyps gs)
first_in_order hyps gs = record { basis = tt; pairs = tt }

-- ---- runs
pub runs_if_follows : (limit : ℕ) (st last : State) (e : End) → IsInOrder st → Follows limit st last e →
    Runs limit st last e
runs_if_follows limit st last e s (follows.now h) = ends (subst (Takes limit st) h (next_taken_is limit st s))
runs_if_follows limit st last e s (follows.later {to = to} h r) =
    let step = subst (Takes limit st) h (next_taken_is limit st s) in
    goes step (runs_if_follows limit to last e (stays limit st s to step) r)

pub follows_if_runs : (limit : ℕ) (st last : State) (e : End) → IsInOrder st → Runs limit st last e →
    Follows limit st last e
follows_if_runs limit st last e s (ends t) =
    follows.now (one_taken limit st (next limit st) (Ends e) (next_taken_is limit st s) t)
follows_if_runs limit st last e s (goes {to = to} t r) =
    follows.later (one_taken limit st (next limit st) (Goes to) (next_taken_is limit st s) t)
    (follows_if_runs limit to last e (stays limit st s to t) r)
