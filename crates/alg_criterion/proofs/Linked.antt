-- Each step of the machine is a move that the laws know, and its end by rule 8 is theirs.
use Rattle.std.specs.Prelude.{map, ◌≡◌, ◌≢◌, ℕ, zero, ◌≤◌, true, false, cond, nat_lt, List, [], ◌∷◌, Option, Some, None, length}
use Rattle.std.proofs.Common.{refl, sym, ap, subst, inl, inr, arith}
use Rattle.std.proofs.lemmas.Bool.{cases_lt}
use Rattle.std.proofs.lemmas.List.{drop_all}
use Rattle.alg_mono.specs.NumberedPolynomials.{Polynomial}
use Rattle.alg_mono.specs.Outcomes.{Outcome}
use Rattle.alg_lines.specs.Lines.{line_at}
use Rattle.alg_pairs.specs.declared.pair.Pair.{Pair}
use Rattle.alg_groebner.specs.Cancelling.{reduced}
use Rattle.alg_groebner.specs.Choices.{reducer, first_reducible, zero_power}
use Rattle.alg_groebner.specs.Machine.{made, counted, by_pairs, by_inputs, by_reducible, by_reducer, by_line, by_current, by_power, next}
use Rattle.alg_groebner.specs.Moves.{goal_outcome, goal_reduced, line_outcome, line_reduced, next_taken, without_pair, pair_outcome, pair_taken}
use Rattle.alg_groebner.specs.Follows.{Follows, now, later}
use Rattle.alg_groebner.specs.Sound.{IsSound}
use Rattle.alg_groebner.specs.State.{State, End, Next, Goes, Ends}
use Rattle.alg_groebner.proofs.Adding.{is_less, not_less}
use Rattle.alg_groebner.proofs.Keeping.{goes_kept}
use Rattle.alg_criterion.proofs.Spans.{Every}
use Rattle.alg_criterion.proofs.Machine.{IsPoly}
use Rattle.alg_criterion.proofs.Numbered.{IsWithin, mono_times, mono_over, falling}
use Rattle.alg_criterion.proofs.Fine.{IsFine, IsDone, After}
use Rattle.alg_criterion.proofs.Moved.{i, goal_after, dropped_after, line_after, joined_after, taken_after, pair_after}
use Rattle.alg_criterion.proofs.Seeing.{led_pair, current_of}
use Rattle.alg_criterion.proofs.Reducing.{all_reduced}

module _ (b : ℕ) (hyps powers : List Polynomial) (hyps_ok : Every (IsPoly falling mono_times mono_over (IsWithin b))
    hyps)
    (powers_ok : Every (IsPoly falling mono_times mono_over (IsWithin b)) powers) where
  abbrev Fine : State → Type 0
  Fine st = IsFine b hyps powers hyps_ok powers_ok st

  abbrev Done : State → ℕ → Type 0
  Done st r = IsDone b hyps powers hyps_ok powers_ok st r

  abbrev Then : State → Next → Type 0
  Then st x = After b hyps powers hyps_ok powers_ok st x

  module _ (limit : ℕ) (st : State) (s : IsSound limit st) (f : Fine st) where
    made_after : (to : State) (o : Outcome) → Fine to → Then st (made o to)
    made_after to Outcome.Fine h = h
    made_after to Outcome.Range h = tt
    made_after to Outcome.Degree h = tt

    counted_after : (to : State) (o : Outcome) → Fine to → Then st (counted limit st o to)
    counted_after to o h =
        elim (nat_lt st.count limit) as (λ c. Then st (cond c (made o to) (Ends End.GaveUp)))
        [ true ↦ made_after to o h | false ↦ tt ]

    -- ---- the first rule that applies
    module _ (zero : zero_power st.remainders ≡ None) where
      pairs_done : st.current ≡ None → first_reducible st.lines st.basis 0 st.remainders ≡ None →
          st.given ≤ st.taken → st.pairs ≡ [] → Done st (length st.remainders)
      pairs_done c n t e = record {
        fine = f;
        over = record {
          current = ap (current_of st.lines) c;
          inputs = drop_all st.taken hyps (let g = f.given in omega arith);
          pairs = ap (map (led_pair st.lines)) e;
          reduced = all_reduced b st.lines st.basis s.basis
              (i b hyps powers hyps_ok powers_ok limit st s f).line st.remainders 0 1 n zero;
        };
        power = f.count;
      }

      pairs_after : st.current ≡ None → first_reducible st.lines st.basis 0 st.remainders ≡ None →
          st.given ≤ st.taken → (xs : List Pair) → st.pairs ≡ xs → Then st (by_pairs limit st xs)
      pairs_after c n t [] e = pairs_done c n t e
      pairs_after c n t (x ∷ rest) e =
          counted_after (pair_taken (without_pair st rest) x.i x.j) (pair_outcome st x.i x.j)
          (pair_after b hyps powers hyps_ok powers_ok limit st s f x rest c e)

      inputs_after : st.current ≡ None → first_reducible st.lines st.basis 0 st.remainders ≡ None →
          Then st (by_inputs limit st)
      inputs_after c n =
          elim (cases_lt st.taken st.given) [
            | inl h ↦ subst (λ t. Then st (cond t (Goes (next_taken st)) (by_pairs limit st st.pairs)))
                (sym (is_less st.taken st.given h)) (taken_after b hyps powers hyps_ok powers_ok limit st s f c h)
            | inr h ↦ subst (λ t. Then st (cond t (Goes (next_taken st)) (by_pairs limit st st.pairs)))
                (sym (not_less st.taken st.given h)) (pairs_after c n h st.pairs refl)
          ]

      reducible_after : st.current ≡ None → (o : Option (ℕ × ℕ)) →
          first_reducible st.lines st.basis 0 st.remainders ≡ o → Then st (by_reducible limit st o)
      reducible_after c None e = inputs_after c e
      reducible_after c (Some x) e =
          counted_after (goal_reduced st x.0 x.1) (goal_outcome st x.0 x.1)
          (goal_after b hyps powers hyps_ok powers_ok limit st s f x.0 x.1 e)

      reducer_after : (k : ℕ) → st.current ≡ Some k → line_at st.lines k ≢ [] → (o : Option ℕ) →
          reducer st.lines st.basis (line_at st.lines k) ≡ o → Then st (by_reducer limit st k o)
      reducer_after k c some None e = joined_after b hyps powers hyps_ok powers_ok limit st s f k c some
      reducer_after k c some (Some j) e =
          counted_after (line_reduced st k j) (line_outcome st k j)
          (line_after b hyps powers hyps_ok powers_ok limit st s f k j c e)

      line_rules_after : (k : ℕ) → st.current ≡ Some k → (p : Polynomial) → line_at st.lines k ≡ p →
          Then st (by_line limit st k p)
      line_rules_after k c [] e = dropped_after b hyps powers hyps_ok powers_ok limit st s f k c e
      line_rules_after k c (x ∷ p) e =
          reducer_after k c (subst (λ (q : Polynomial). q ≢ []) (sym e) (λ z. grind arith))
          (reducer st.lines st.basis (x ∷ p)) (ap (reducer st.lines st.basis) e)

      current_after : (o : Option ℕ) → st.current ≡ o → Then st (by_current limit st o)
      current_after None c = reducible_after c (first_reducible st.lines st.basis 0 st.remainders) refl
      current_after (Some k) c = line_rules_after k c (line_at st.lines k) refl

    power_after : (o : Option ℕ) → zero_power st.remainders ≡ o → Then st (by_power limit st o)
    power_after None z = current_after z st.current refl
    power_after (Some r) z = tt

    pub after_next : Then st (next limit st)
    unfolding next
    after_next = power_after (zero_power st.remainders) refl

  pub run_fine : (limit : ℕ) (st last : State) (e : End) → Follows limit st last e → IsSound limit st → Fine st →
      Fine last × Then last (Ends e)
  run_fine limit st last e (now h) s f = (f, subst (Then st) h (after_next limit st s f))
  run_fine limit st last e (later {to = to} h r) s f =
      run_fine limit to last e r ((goes_kept limit st to s h).0) (subst (Then st) h (after_next limit st s f))
