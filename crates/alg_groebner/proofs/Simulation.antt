-- Each step of the code's rules is one of the machine.
use Rattle.std.specs.Prelude.{◌≡◌, ℕ, ◌+◌, ◌<◌, true, false, cond, nat_lt, List, [], ◌∷◌, ◌++◌, Option, Some, None, option_map, All, IfSome}
use Rattle.std.proofs.Common.{refl, sym, ap, subst, arith}
use Rattle.std.proofs.lemmas.List.Elements.{All-head, All-tail}
use Rattle.std.proofs.lemmas.Map.Views.{All-insert_key}
use Rattle.alg_mono.specs.NumberedPolynomials.{Polynomial}
use Rattle.alg_mono.specs.Outcomes.{Outcome}
use Rattle.alg_lines.specs.Lines.{line_at}
use Rattle.alg_pairs.specs.declared.pair.Pair.{Pair}
use Rattle.alg_groebner.specs.Cancelling.{quotient, reduced, reduce_outcome}
use Rattle.alg_groebner.specs.Choices.{remainder_at, zero_power, reducer}
use Rattle.alg_groebner.specs.Machine.{counted, by_pairs, by_inputs, by_reducible, by_reducer, by_line, by_current, by_power, next}
use Rattle.alg_groebner.specs.Moves.{stepped, with_line, goal_reduced, line_reduced, joined, next_taken}
use Rattle.alg_groebner.specs.Sound.{AreMembers, IsSound}
use Rattle.alg_groebner.specs.State.{State, Goes}
use Rattle.alg_groebner.specs.Work.{Work, member_reducer, member_reducible, member_cmp, with_step, work_goal_reduced, work_line_reduced, work_taken}
use Rattle.alg_groebner.specs.Working.{work_by_pairs, work_by_inputs, work_by_reducible, work_by_reducer, work_by_line, work_by_current, work_by_power, work_next}
use Rattle.alg_groebner.specs.declared.member.Member.{Member}
use Rattle.alg_groebner.specs.declared.remainder.Remainder.{Remainder}
use Rattle.alg_groebner.proofs.Found.{found_holds, same_some, none_some}
use Rattle.alg_groebner.proofs.Queued.{members_queued, numbers-insert}
use Rattle.alg_groebner.proofs.Shown.{numbers, shown, IsLine, IsWithin, Agrees, reducer_same, numbered, reducible_same}
use Rattle.alg_groebner.proofs.Simulated.{Shows, Simulates, counted_sim, made_shows, over_there, pair_sim, over_sim}

-- the member of a remainder's choice is a basis line
pub chosen_line : (P : Member → Type 0) (basis : List Member) (gs : List Remainder) (n r : ℕ) (b : Member) → All P
    basis →
    member_reducible basis n gs ≡ Some (r, b) → P b
chosen_line P basis [] n r b a e = absurd (none_some (r, b) e)
chosen_line P basis (g ∷ gs) n r b a e =
    elim (member_reducer basis g.rest) as (λ o. member_reducer basis g.rest ≡ o →
    Rattle.alg_groebner.specs.Work.member_found n o (member_reducible basis (n + 1) gs) ≡ Some (r, b) → P b) [
      | Some k ↦ λ t s. here k t s
      | None ↦ λ t s. chosen_line P basis gs (n + 1) r b a s
    ] refl e
  where
    here : (k : Member) → member_reducer basis g.rest ≡ Some k → ◌≡◌ {A = Option (ℕ × Member)} (Some (n, k))
        (Some (r, b)) → P b
    here k t q =
        let first : ℕ × Member = (n, k) in
        let second : ℕ × Member = (r, b) in
        let same : k ≡ b = ap (λ (x : ℕ × Member). x.1) (same_some first second q) in
        subst P same (found_holds P _ basis k a (sym t))

module _ (hyps : List Polynomial) (limit : ℕ) (w : Work) (lines : List Polynomial) (over : List Pair)
    (agrees : Agrees hyps w lines over) (sound : IsSound limit (shown w lines over)) where
  abbrev st : State
  st = shown w lines over

  -- ---- InputIsTaken, PairIsTaken and NothingIsLeft
  pairs_sim : (xs : List Pair) → xs ≡ w.queue.pairs → Simulates hyps (work_by_pairs limit w xs)
      (by_pairs limit st (xs ++ over))
  unfolding shown
  pairs_sim [] e = over_sim hyps limit w lines over agrees sound over agrees.queue.beyond agrees.queue.flag
  pairs_sim (x ∷ rest) e =
      let near = subst (λ (ys : List Pair). All IsWithin ys) (sym e) agrees.queue.within in
      let members = subst (λ (ys : List Pair). All (AreMembers (numbers w.basis)) (ys ++ over)) (sym e) sound.members in
      pair_sim hyps limit w lines over agrees sound x rest (All-tail IsWithin x rest near)
      (All-head (AreMembers (numbers w.basis)) x (rest ++ over) members)

  inputs_sim : Simulates hyps (work_by_inputs hyps limit w) (by_inputs limit st)
  unfolding shown
  inputs_sim =
      elim (nat_lt w.taken w.given) as (λ b. nat_lt w.taken w.given ≡ b →
      Simulates hyps (cond b (Rattle.alg_groebner.specs.Working.GoesOn (work_taken w hyps))
      (work_by_pairs limit w w.queue.pairs))
      (cond b (Goes (next_taken st)) (by_pairs limit st st.pairs))) [
        | true ↦ λ e. (
          next_taken st,
          refl,
          (
            lines,
            over,
            refl,
            record {
              given = agrees.given;
              hypotheses = agrees.hypotheses;
              basis = agrees.basis;
              current = agrees.hypotheses w.taken (test_less w.taken w.given e);
              queue = agrees.queue;
            },
          ),
        )
        | false ↦ λ e. pairs_sim w.queue.pairs refl
      ] refl
    where
      test_less : (a b : ℕ) → nat_lt a b ≡ true → a < b
      test_less a b e = grind arith

  -- ---- GoalIsReduced
  goal_sim : (r : ℕ) (b : Member) → member_reducible w.basis 0 w.remainders ≡ Some (r, b) →
      Simulates hyps (work_by_reducible hyps limit w (Some (r, b))) (by_reducible limit st (Some (r, b.number)))
  unfolding shown with_step
  goal_sim r b e =
      let is : b.poly ≡ line_at lines b.number = chosen_line (IsLine lines) w.basis w.remainders 0 r b agrees.basis e in
      let g = remainder_at w.remainders r in
      subst (λ (o : Outcome). Simulates hyps (work_by_reducible hyps limit w (Some (r, b)))
      (counted limit st o (goal_reduced st r b.number)))
      (λ k. reduce_outcome g.rest (is k))
      (counted_sim hyps limit w lines over agrees sound (reduce_outcome g.rest b.poly) (work_goal_reduced w r b)
      (goal_reduced st r b.number)
      (λ fine. (
        lines,
        over,
        (λ k. record st {
          remainders = Rattle.std.specs.Prelude.slice_set w.remainders r
              (stepped g (quotient g.rest (sym is k)) b.number (reduced g.rest (sym is k)));
          count = w.count + 1;
        }),
        record {
          given = agrees.given;
          hypotheses = agrees.hypotheses;
          basis = agrees.basis;
          current = agrees.current;
          queue = agrees.queue;
        },
      )))

  reducible_sim : (o : Option (ℕ × Member)) → member_reducible w.basis 0 w.remainders ≡ o →
      Simulates hyps (work_by_reducible hyps limit w o) (by_reducible limit st (option_map numbered o))
  reducible_sim None e = inputs_sim
  reducible_sim (Some x) e = goal_sim x.0 x.1 e

  -- ---- LineIsZero, LineIsReduced and LineJoins
  module _ (c : Member) (line : IsLine lines c) where
    line_sim : (b : Member) → member_reducer w.basis c.poly ≡ Some b →
        Simulates hyps (work_by_reducer limit w c (Some b)) (by_reducer limit st c.number (Some b.number))
    unfolding shown
    line_sim b e =
        let is : b.poly ≡ line_at lines b.number = found_holds (IsLine lines) _ w.basis b agrees.basis (sym e) in
        subst (λ (o : Outcome). Simulates hyps (work_by_reducer limit w c (Some b))
        (counted limit st o (line_reduced st c.number b.number)))
        (λ k. reduce_outcome (line k) (is k))
        (counted_sim hyps limit w lines over agrees sound (reduce_outcome c.poly b.poly) (work_line_reduced w c b)
        (line_reduced st c.number b.number)
        (λ fine. subst (λ (to : State). Shows hyps (work_line_reduced w c b) to)
        (λ k. with_line st [] c.number (quotient (line k) (is k)) b.number (reduced (line k) (is k)))
        (made_shows hyps limit w lines over agrees sound w.queue agrees.queue
        (over_there hyps limit w lines over agrees sound)
        [] c.number (quotient c.poly b.poly) b.number (reduced c.poly b.poly))))

    join_sim : Simulates hyps (work_by_reducer limit w c None) (by_reducer limit st c.number None)
    unfolding shown
    join_sim =
        let queued = members_queued lines c w.basis w.queue over agrees.queue agrees.basis line in (
          joined st c.number,
          refl,
          (
            lines,
            queued.0,
            (λ k. record st { basis = numbers-insert w.basis c k; pairs = queued.1 k; current = None }),
            record {
              given = agrees.given;
              hypotheses = agrees.hypotheses;
              basis = All-insert_key member_cmp c (IsLine lines) w.basis agrees.basis line;
              current = tt;
              queue = queued.2;
            },
          ),
        )

    reducer_sim : (o : Option Member) → member_reducer w.basis c.poly ≡ o →
        Simulates hyps (work_by_reducer limit w c o) (by_reducer limit st c.number (option_map (λ b. b.number) o))
    reducer_sim None e = join_sim
    reducer_sim (Some b) e = line_sim b e

    line_rules_sim : (p : Polynomial) → c.poly ≡ p → Simulates hyps (work_by_line limit w c p)
        (by_line limit st c.number p)
    unfolding shown
    line_rules_sim [] e = (
      record st { current = None },
      refl,
      (
        lines,
        over,
        refl,
        record {
          given = agrees.given;
          hypotheses = agrees.hypotheses;
          basis = agrees.basis;
          current = tt;
          queue = agrees.queue;
        },
      ),
    )
    line_rules_sim (f ∷ p) e =
        let chosen : reducer lines (numbers w.basis) (f ∷ p) ≡ option_map (λ b. b.number)
        (member_reducer w.basis (f ∷ p)) =
        reducer_same lines w.basis (f ∷ p) agrees.basis in
        subst (λ (o : Option ℕ). Simulates hyps (work_by_reducer limit w c (member_reducer w.basis (f ∷ p)))
        (by_reducer limit st c.number o)) (sym chosen)
        (reducer_sim (member_reducer w.basis (f ∷ p)) (ap (member_reducer w.basis) e))

  current_sim : (o : Option Member) → w.current ≡ o → IfSome o (IsLine lines) →
      Simulates hyps (work_by_current hyps limit w o) (by_current limit st (option_map (λ b. b.number) o))
  unfolding shown
  current_sim None e a =
      subst (λ (o : Option (ℕ × ℕ)). Simulates hyps (work_by_reducible hyps limit w
      (member_reducible w.basis 0 w.remainders)) (by_reducible limit st o))
      (sym (reducible_same lines w.basis 0 w.remainders agrees.basis))
      (reducible_sim (member_reducible w.basis 0 w.remainders) refl)
  current_sim (Some c) e a =
      subst (λ (p : Polynomial). Simulates hyps (work_by_line limit w c c.poly) (by_line limit st c.number p)) a
      (line_rules_sim c a c.poly refl)

  power_sim : (o : Option ℕ) → Simulates hyps (work_by_power hyps limit w o) (by_power limit st o)
  unfolding shown
  power_sim None = current_sim w.current refl agrees.current
  power_sim (Some r) = refl

  pub next_sim : Simulates hyps (work_next hyps limit w) (next limit st)
  unfolding shown work_next next
  next_sim = power_sim (zero_power w.remainders)
