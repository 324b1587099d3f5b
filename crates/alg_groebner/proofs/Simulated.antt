-- The rules over the code's state do what the machine's rules do over the state that it shows.
use Rattle.std.specs.Prelude.{◌≡◌, ℕ, ◌+◌, ◌<◌, true, false, not, cond, nat_lt, List, [], ◌∷◌, ◌++◌, Option, Some, length, All}
use Rattle.std.proofs.Common.{refl, sym, ap, subst, ◌∙◌, arith}
use Rattle.std.proofs.lemmas.List.Elements.{All-nil, All-cons, All-head, All-tail}
use Rattle.alg_mono.specs.Mono.{Monomial}
use Rattle.alg_mono.specs.Monomials.{MAX_DEGREE, degree}
use Rattle.alg_mono.specs.NumberedPolynomials.{Polynomial}
use Rattle.alg_mono.specs.Outcomes.{Outcome, is_nothing}
use Rattle.alg_lines.specs.Lines.{line_at}
use Rattle.alg_pairs.specs.declared.pair.Pair.{Pair}
use Rattle.alg_groebner.specs.Cancelling.{lead_lcm, left_lift, right_lift, s_polynomial, s_outcome, cancel_outcome}
use Rattle.alg_groebner.specs.Machine.{made, counted, by_pairs}
use Rattle.alg_groebner.specs.Moves.{with_line, without_pair, pair_outcome, pair_taken}
use Rattle.alg_groebner.specs.Sound.{IsThere, HasBoth, AreMembers, IsSound}
use Rattle.alg_groebner.specs.State.{State, End, Next, Goes, Ends}
use Rattle.alg_groebner.specs.Work.{Work, member_at, with_made, work_pair_taken}
use Rattle.alg_groebner.specs.Working.{WorkNext, GoesOn, Stops, work_made, work_counted, by_members, work_by_pairs}
use Rattle.alg_groebner.specs.declared.member.Member.{Member}
use Rattle.alg_groebner.specs.declared.cancel.Cancelled.{Cancelled}
use Rattle.alg_groebner.specs.declared.queue.Queue.{Queue}
use Rattle.alg_groebner.proofs.Adding.{is_less}
use Rattle.alg_groebner.proofs.Found.{found_holds}
use Rattle.alg_groebner.proofs.Scans.{there_number}
use Rattle.alg_groebner.proofs.Shown.{numbers, shown, IsLine, IsWithin, IsBeyond, AreOver, Agrees, at_longer, at_last, member_there}

-- what the one gives is what the other does
abbrev pub Shows : List Polynomial → Work → State → Type 0
Shows hyps w st = (lines : List Polynomial) × (over : List Pair) × (st ≡ shown w lines over) × Agrees hyps w lines over

abbrev pub Simulates : List Polynomial → WorkNext → Next → Type 0
Simulates hyps (GoesOn w) n = (st : State) × (n ≡ Goes st) × Shows hyps w st
Simulates hyps (Stops e) n = n ≡ Ends e

module _ (hyps : List Polynomial) (limit : ℕ) (w : Work) (lines : List Polynomial) (over : List Pair)
    (agrees : Agrees hyps w lines over) (sound : IsSound limit (shown w lines over)) where
  abbrev pub st : State
  st = shown w lines over

  -- ---- moves
  pub counted_sim : (o : Outcome) (to : Work) (go : State) → (o ≡ Outcome.Fine → Shows hyps to go) →
      Simulates hyps (work_counted limit w o to) (counted limit st o go)
  unfolding shown
  counted_sim o to go f =
      elim (nat_lt w.count limit) as
      (λ b. Simulates hyps (cond b (work_made o to) (Stops End.GaveUp)) (cond b (made o go) (Ends End.GaveUp))) [
        | true ↦ by_outcome o f
        | false ↦ refl
      ]
    where
      by_outcome : (o : Outcome) → (o ≡ Outcome.Fine → Shows hyps to go) → Simulates hyps (work_made o to) (made o go)
      by_outcome Outcome.Fine f = (go, refl, f refl)
      by_outcome Outcome.Range f = refl
      by_outcome Outcome.Degree f = refl

  -- lines and pairs that stay
  line_longer : (p : Polynomial) (b : Member) → IsThere lines b.number → IsLine lines b → IsLine (lines ++ p ∷ []) b
  line_longer p b there h = h ∙ at_longer lines p b.number (there_number lines b.number there)

  pub members_longer : (p : Polynomial) (bs : List Member) → All (IsThere lines) (numbers bs) → All (IsLine lines) bs →
      All (IsLine (lines ++ p ∷ [])) bs
  members_longer p [] t h = All-nil (IsLine (lines ++ p ∷ []))
  members_longer p (b ∷ bs) t h =
      All-cons (IsLine (lines ++ p ∷ [])) b bs
      (line_longer p b (All-head (IsThere lines) b.number (numbers bs) t) (All-head (IsLine lines) b bs h))
      (members_longer p bs (All-tail (IsThere lines) b.number (numbers bs) t) (All-tail (IsLine lines) b bs h))

  beyond_longer : (p : Polynomial) (xs : List Pair) → All (HasBoth lines) xs → All (IsBeyond lines) xs →
      All (IsBeyond (lines ++ p ∷ [])) xs
  beyond_longer p [] t h = All-nil (IsBeyond (lines ++ p ∷ []))
  beyond_longer p (x ∷ xs) t h =
      let both = All-head (HasBoth lines) x xs t in
      let is = All-head (IsBeyond lines) x xs h in
      let i = at_longer lines p x.i (there_number lines x.i both.0) in
      let j = at_longer lines p x.j (there_number lines x.j both.1) in
      All-cons (IsBeyond (lines ++ p ∷ [])) x xs (is.0, is.1 ∙ (λ k. lead_lcm (i k) (j k)))
      (beyond_longer p xs (All-tail (HasBoth lines) x xs t) (All-tail (IsBeyond lines) x xs h))

  -- a new line
  pub made_shows : (q : Queue) → AreOver lines q over → All (HasBoth lines) over → (m : Monomial) (i : ℕ)
      (n : Monomial) (j : ℕ) (c : Cancelled) →
      Shows hyps (with_made (record w { queue = q }) m i n j c)
      (with_line (without_pair st (q.pairs ++ over)) m i n j c)
  unfolding shown with_made with_line
  made_shows q h t m i n j c =
      let total = sound.lines in
      let number : length lines + 1 ≡ w.given + length w.made + 1 = omega arith in
      let all = lines ++ c.poly ∷ [] in (
        all,
        over,
        (λ k. record (with_line (without_pair st (q.pairs ++ over)) m i n j c) { current = Some (number k) }),
        record {
          given = agrees.given;
          hypotheses = λ k less. agrees.hypotheses k less ∙ at_longer lines c.poly (k + 1) (omega arith, omega arith);
          basis = members_longer c.poly w.basis sound.basis agrees.basis;
          current = at_last lines c.poly (w.given + length w.made + 1) (sym number);
          queue = record {
            within = h.within;
            beyond = beyond_longer c.poly over t h.beyond;
            flag = h.flag;
          };
        },
      )

  -- the pairs beyond the limit have their lines
  drop_front : (xs ys : List Pair) → All (HasBoth lines) (xs ++ ys) → All (HasBoth lines) ys
  drop_front [] ys h = h
  drop_front (x ∷ xs) ys h = drop_front xs ys (All-tail (HasBoth lines) x (xs ++ ys) h)

  pub over_there : All (HasBoth lines) over
  unfolding shown
  over_there = drop_front w.queue.pairs over sound.pairs

  -- ---- PairIsTaken and NothingIsLeft
  pub pair_sim : (x : Pair) (rest : List Pair) → All IsWithin rest → AreMembers (numbers w.basis) x →
      Simulates hyps (work_by_pairs limit w (x ∷ rest)) (by_pairs limit st (x ∷ rest ++ over))
  unfolding shown
  pair_sim x rest near m =
      let first = member_there w.basis x.i m.0 in
      let second = member_there w.basis x.j m.1 in
      let b = first.0 in
      let c = second.0 in
      let b_is : b.poly ≡ line_at lines x.i = found_holds (IsLine lines) _ w.basis b agrees.basis first.1 ∙ ap
      (line_at lines) first.2 in
      let c_is : c.poly ≡ line_at lines x.j = found_holds (IsLine lines) _ w.basis c agrees.basis second.1 ∙ ap
      (line_at lines) second.2 in
      let q : Queue = record { pairs = rest; beyond = w.queue.beyond } in
      let over_is = agrees.queue in
      let queue : AreOver lines q over = record { within = near; beyond = over_is.beyond; flag = over_is.flag } in
      subst (λ (o : Option Member). Simulates hyps (by_members limit w rest o (member_at w.basis x.j))
      (by_pairs limit st (x ∷ rest ++ over))) first.1
      (subst (λ (o : Option Member). Simulates hyps (by_members limit w rest (Some b) o)
      (by_pairs limit st (x ∷ rest ++ over))) second.1
      (subst (λ (o : Outcome). Simulates hyps (by_members limit w rest (Some b) (Some c))
      (counted limit st o (pair_taken (without_pair st (rest ++ over)) x.i x.j)))
      (λ k. s_outcome (b_is k) (c_is k))
      (counted_sim (s_outcome b.poly c.poly) _ (pair_taken (without_pair st (rest ++ over)) x.i x.j)
      (λ fine. subst (λ (to : State). Shows hyps (work_pair_taken (record w { queue = q }) b c) to)
      (λ k. with_line (without_pair st (rest ++ over)) (left_lift (b_is k) (c_is k)) (first.2 k)
      (right_lift (b_is k) (c_is k)) (second.2 k) (s_polynomial (b_is k) (c_is k)))
      (made_shows q queue over_there (left_lift b.poly c.poly) b.number (right_lift b.poly c.poly) c.number
      (s_polynomial b.poly c.poly))))))

  pub over_sim : (xs : List Pair) → All (IsBeyond lines) xs → w.queue.beyond ≡ not (is_nothing xs) →
      Simulates hyps (work_by_pairs limit w []) (by_pairs limit st xs)
  unfolding shown
  over_sim [] h flag =
      subst (λ b. Simulates hyps (cond b (work_counted limit w Outcome.Degree w)
      (Stops (End.NoneUpTo (length w.remainders))))
      (Ends (End.NoneUpTo (length w.remainders)))) (sym flag) refl
  over_sim (x ∷ xs) h flag =
      let is = All-head (IsBeyond lines) x xs h in
      let far : MAX_DEGREE < degree (lead_lcm (line_at lines x.i) (line_at lines x.j)) =
      subst (λ (m : Monomial). MAX_DEGREE < degree m) is.1 is.0 in
      let outcome : Outcome.Degree ≡ pair_outcome st x.i x.j =
      ap (λ b. cond b Outcome.Degree (cancel_outcome (left_lift (line_at lines x.i) (line_at lines x.j))
      (line_at lines x.i) (right_lift (line_at lines x.i) (line_at lines x.j)) (line_at lines x.j)))
      (sym (is_less MAX_DEGREE (degree (lead_lcm (line_at lines x.i) (line_at lines x.j))) far)) in
      subst (λ b. Simulates hyps (cond b (work_counted limit w Outcome.Degree w)
      (Stops (End.NoneUpTo (length w.remainders)))) (by_pairs limit st (x ∷ xs))) (sym flag)
      (subst (λ (o : Outcome). Simulates hyps (work_counted limit w Outcome.Degree w)
      (counted limit st o (pair_taken (without_pair st xs) x.i x.j))) outcome
      (counted_sim Outcome.Degree w (pair_taken (without_pair st xs) x.i x.j) (λ e. absurd (no e))))
    where
      no : Outcome.Degree ≡ Outcome.Fine → ⊥
      no e = grind arith
