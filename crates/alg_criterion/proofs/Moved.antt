-- Each rule of the machine that goes on is a move that the laws know.
use Rattle.std.specs.Prelude.{map, ◌≡◌, ◌≢◌, ℕ, zero, suc, ◌+◌, ◌-◌, ◌<◌, true, List, [], ◌∷◌, ◌++◌, Some, None, length, drop, get_or, All}
use Rattle.std.proofs.Common.{sym, ap, subst, ◌∙◌, ◌⊎◌, inl, inr, arith}
use Rattle.std.proofs.lemmas.List.{get_or_append_left, append_assoc, length-set}
use Rattle.std.proofs.lemmas.List.Elements.{All-head, All-tail}
use Rattle.std.proofs.Math.Seq.{drop-cons}
use Rattle.std.specs.Ordering.{nat_cmp}
use Rattle.std.specs.BTreeSet.{insert_key}
use Rattle.alg_mono.specs.Mono.{Monomial}
use Rattle.alg_mono.specs.NumberedPolynomials.{Polynomial}
use Rattle.alg_lines.specs.Lines.{line_at}
use Rattle.alg_pairs.specs.declared.pair.Pair.{Pair}
use Rattle.alg_groebner.specs.Cancelling.{quotient, reduced, left_lift, right_lift, s_polynomial}
use Rattle.alg_groebner.specs.Choices.{remainder_at, reducer, first_reducible, with_pairs}
use Rattle.alg_groebner.specs.Leads.{reduces, coprime, lead}
use Rattle.alg_groebner.specs.Machine.{made}
use Rattle.alg_groebner.specs.Moves.{with_line, stepped, goal_reduced, dropped, line_reduced, joined, next_taken, without_pair, pair_taken}
use Rattle.alg_groebner.specs.Sound.{HasBoth, AreMembers, IsSound}
use Rattle.alg_groebner.specs.State.{State}
use Rattle.alg_groebner.proofs.Chosen.{reducer_says, reducible_says}
use Rattle.alg_criterion.proofs.Spans.{Every, Led, whole, IsLine}
use Rattle.alg_criterion.proofs.Machine.{Has, IsPoly, AreCoprime, Reached, steps, drops, reduces as reduces_move, joins, takes, pairs_up}
use Rattle.alg_criterion.proofs.Numbered.{IsWithin, mono_times, mono_over, falling}
use Rattle.alg_criterion.proofs.Instance.{monomials}
use Rattle.alg_criterion.proofs.Invariant.{Inv, inv}
use Rattle.alg_criterion.proofs.Remains.{poly_line}
use Rattle.alg_criterion.proofs.Lists.{whole-led_of, lead-led_of}
use Rattle.alg_criterion.proofs.Members.{has_mapped, has_from, has_in, found_in, insert_self, insert_grows, insert_split}
use Rattle.alg_criterion.proofs.Cancelled.{reduct_at, s_at}
use Rattle.alg_criterion.proofs.Commons.{are_coprime}
use Rattle.alg_criterion.proofs.Fine.{IsFine}
use Rattle.alg_criterion.proofs.Seeing.{led_at, led_pair, current_of, rests, seen, line_seen}
use Rattle.alg_criterion.proofs.Joining.{same_led, pairs_grow, pairs_meet}
use Rattle.alg_criterion.proofs.Reducing.{reducible_in, set_steps}

abbrev IsP : ℕ → Polynomial → Type 0
IsP b p = IsPoly falling mono_times mono_over (IsWithin b) p

abbrev IsL : ℕ → Led Monomial → Type 0
IsL b l = IsLine falling mono_times (IsWithin b) l

module _ (b : ℕ) (hyps powers : List Polynomial) (hyps_ok : Every (IsPoly falling mono_times mono_over (IsWithin b))
    hyps)
    (powers_ok : Every (IsPoly falling mono_times mono_over (IsWithin b)) powers) where
  abbrev Fine : State → Type 0
  Fine st = IsFine b hyps powers hyps_ok powers_ok st

  module _ (limit : ℕ) (st : State) (s : IsSound limit st) (f : Fine st) where
    pub i : Inv (monomials b) hyps powers hyps_ok powers_ok (seen hyps st f.made)
    i = inv (monomials b) hyps powers hyps_ok powers_ok (seen hyps st f.made) f.reached

    abbrev basis : List (Led Monomial)
    basis = map (led_at st.lines) st.basis

    member : (k : ℕ) → Has k st.basis → Has (led_at st.lines k) basis
    member k h = has_mapped (led_at st.lines) k st.basis h

    abbrev Reach : List Polynomial → State → Type 0
    Reach new to = Reached falling mono_times mono_over (IsWithin b) hyps powers (seen hyps to new)

    more_lines : (p : Polynomial) → st.lines ++ p ∷ [] ≡ hyps ++ (f.made ++ p ∷ [])
    more_lines p = ap (λ (xs : List Polynomial). xs ++ p ∷ []) f.lines ∙ append_assoc hyps f.made (p ∷ [])

    -- GoalIsReduced
    pub goal_after : (r j : ℕ) → first_reducible st.lines st.basis 0 st.remainders ≡ Some (r, j) →
        Fine (goal_reduced st r j)
    unfolding stepped
    goal_after r j e =
        let says = reducible_says st.lines st.basis st.remainders 0 r j e in
        let same : r - 0 ≡ r = omega arith in
        let g = remainder_at st.remainders r in
        let q = line_at st.lines j in
        let test : reduces q g.rest ≡ true =
        subst (λ k. reduces q (remainder_at st.remainders k).rest ≡ true) same says.2 in
        let h = member j (reducible_in st.lines st.basis st.remainders 0 r j e) in
        let y = stepped g (quotient g.rest q) j (reduced g.rest q) in
        record {
          made = f.made;
          reached = steps (seen hyps st f.made) f.reached (rests (goal_reduced st r j))
              (set_steps b basis st.remainders (λ g. g.rest) r y (record { rest = []; steps = [] })
              (λ l. inr (
                led_at st.lines j,
                h,
                reduct_at b g.rest q (rest_is st.remainders (λ g. g.rest) i.rests r
                    (record { rest = []; steps = [] }) l) (i.line (led_at st.lines j) h) test,
              )));
          lines = f.lines;
          given = f.given;
          count = length-set st.remainders r y ∙ f.count;
        }
      where
        rest_is : {A : Type 0} (gs : List A) (rest : A → Polynomial) → Every (IsP b) (map rest gs) →
            (r : ℕ) (d : A) → r < length gs →
            IsP b (rest (get_or gs r d))
        rest_is [] rest h r d l = absurd (omega arith)
        rest_is (g ∷ gs) rest h zero d l = h.0
        rest_is (g ∷ gs) rest h (suc r) d l = rest_is gs rest h.1 r d (omega arith)

    -- LineIsZero
    pub dropped_after : (k : ℕ) → st.current ≡ Some k → line_at st.lines k ≡ [] → Fine (dropped st)
    dropped_after k e z = record {
      made = f.made;
      reached = drops (seen hyps st f.made) f.reached (ap (current_of st.lines) e ∙ ap Some z);
      lines = f.lines;
      given = f.given;
      count = f.count;
    }

    -- LineIsReduced
    pub line_after : (k j : ℕ) → st.current ≡ Some k → reducer st.lines st.basis (line_at st.lines k) ≡ Some j →
        Fine (line_reduced st k j)
    unfolding with_line
    line_after k j e t =
        let p = line_at st.lines k in
        let q = line_at st.lines j in
        let h = member j (found_in (λ n. reduces (line_at st.lines n) p) st.basis j t) in
        let cur = ap (current_of st.lines) e in
        let d = reduct_at b p q (i.current p cur) (i.line (led_at st.lines j) h)
        (reducer_says st.lines st.basis p j t) in
        let new = (reduced p q).poly in
        record {
          made = f.made ++ new ∷ [];
          reached = subst (Reached falling mono_times mono_over (IsWithin b) hyps powers)
              (sym (line_seen hyps st st.pairs f.made [] k (quotient p q) j p q s.basis s.pairs))
              (reduces_move (seen hyps st f.made) f.reached p new cur (led_at st.lines j) h d);
          lines = more_lines new;
          given = f.given;
          count = f.count;
        }

    -- the pairs after LineJoins
    abbrev joined_pairs : ℕ → List (Led Monomial × Led Monomial)
    joined_pairs k = map (led_pair st.lines) (with_pairs st.lines k st.basis st.pairs)

    abbrev Met : ℕ → Led Monomial → Type 0
    Met k g =
        let l = led_at st.lines k in
        Has (g, l) (joined_pairs k) ⊎ Has (l, g) (joined_pairs k)
        ⊎ AreCoprime falling mono_times mono_over (IsWithin b) g.lead l.lead

    meets : (k : ℕ) → IsL b (led_at st.lines k) → (g : Led Monomial) →
        (j : ℕ) × Has j st.basis × (g ≡ led_at st.lines j) → Met k g
    meets k il g m =
        let j = m.0 in
        subst (Met k) (sym m.2) (elim (pairs_meet st.lines k st.basis st.pairs j m.1) [
          | inl a ↦ inl a
          | inr r ↦ elim r [
            | inl a ↦ inr (inl a)
            | inr c ↦ inr (inr (are_coprime b (led_at st.lines j).lead (led_at st.lines k).lead
                (i.line (led_at st.lines j) (member j m.1)).ok.0 il.ok.0
                (subst (λ v. coprime v (led_at st.lines k).lead ≡ true) (lead-led_of (line_at st.lines j))
                (subst (λ v. coprime (lead (line_at st.lines j)) v ≡ true) (lead-led_of (line_at st.lines k)) c))))
          ]
        ])

    -- LineJoins
    pub joined_after : (k : ℕ) → st.current ≡ Some k → line_at st.lines k ≢ [] → Fine (joined st k)
    joined_after k e some =
        let l = led_at st.lines k in
        let is_whole = whole-led_of (line_at st.lines k) some in
        let cur = ap (current_of st.lines) e ∙ ap Some (sym is_whole) in
        let il = poly_line (monomials b) l (i.current (whole l) cur) in
        record {
          made = f.made;
          reached = joins (seen hyps st f.made) f.reached l cur
              (map (led_at st.lines) (insert_key nat_cmp st.basis k))
              (insert_self nat_cmp (led_at st.lines) (same_led st.lines) st.basis k)
              (insert_grows nat_cmp (led_at st.lines) (same_led st.lines) st.basis k)
              (insert_split nat_cmp (led_at st.lines) (same_led st.lines) st.basis k)
              (map (led_pair st.lines) (with_pairs st.lines k st.basis st.pairs))
              (pairs_grow st.lines k st.basis st.pairs)
              (λ g h. meets k il g (has_from (led_at st.lines) g st.basis h));
          lines = f.lines;
          given = f.given;
          count = f.count;
        }

    -- InputIsTaken
    pub taken_after : st.current ≡ None → st.taken < st.given → Fine (next_taken st)
    taken_after e more =
        let n = st.taken in
        let inside : n < length hyps = let g = f.given in omega arith in
        let one : suc n ≡ n + 1 = omega arith in
        let here : line_at st.lines (n + 1) ≡ get_or hyps n [] =
        ap (λ (xs : List Polynomial). line_at xs (n + 1)) f.lines ∙ ap (line_at (hyps ++ f.made)) (sym one)
        ∙ get_or_append_left hyps f.made [] n inside in
        record {
          made = f.made;
          reached = takes (seen hyps st f.made) f.reached (ap (current_of st.lines) e) (line_at st.lines (n + 1))
              (drop (n + 1) hyps)
              (drop-cons hyps n [] inside ∙ (λ t. sym here t ∷ drop (one t) hyps));
          lines = f.lines;
          given = f.given;
          count = f.count;
        }

    -- PairIsTaken
    pub pair_after : (x : Pair) (rest : List Pair) → st.current ≡ None → st.pairs ≡ x ∷ rest →
        Fine (pair_taken (without_pair st rest) x.i x.j)
    unfolding with_line
    pair_after x rest e k =
        let p = line_at st.lines x.i in
        let q = line_at st.lines x.j in
        let members = All-head (AreMembers st.basis) x rest (subst (All (AreMembers st.basis)) k s.members) in
        let both = subst (All (HasBoth st.lines)) k s.pairs in
        let there = All-head (HasBoth st.lines) x rest both in
        let hf = member x.i (has_in x.i st.basis members.0) in
        let hg = member x.j (has_in x.j st.basis members.1) in
        let d = s_at b p q there.0 there.1 (i.line (led_at st.lines x.i) hf) (i.line (led_at st.lines x.j) hg) in
        let new = (s_polynomial p q).poly in
        record {
          made = f.made ++ new ∷ [];
          reached = subst (Reached falling mono_times mono_over (IsWithin b) hyps powers)
              (sym (line_seen hyps st rest f.made (left_lift p q) x.i (right_lift p q) x.j p q s.basis
              (All-tail (HasBoth st.lines) x rest both)))
              (pairs_up (seen hyps st f.made) f.reached (ap (current_of st.lines) e) (led_at st.lines x.i)
              (led_at st.lines x.j) hf hg (map (led_pair st.lines) rest)
              (λ v h. subst (λ ps. Has v (map (led_pair st.lines) ps)) k h) new d);
          lines = more_lines new;
          given = f.given;
          count = f.count;
        }
