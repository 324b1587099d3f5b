-- What the ends of runs say.
use Rattle.std.specs.Prelude.{◌≡◌, ℕ, zero, suc, ◌+◌, ◌<◌, ◌≤◌, ◌^◌, Bool, true, false, cond, nat_lt, List, [], ◌∷◌, Option, Some, None, length}
use Rattle.std.proofs.Common.{refl, ap, subst, arith}
use Rattle.std.specs.List.{position_from}
use Rattle.std.proofs.lemmas.List.Elements.{All-nil}
use Rattle.alg_mono.specs.Outcomes.{Outcome}
use Rattle.alg_mono.specs.NumberedPolynomials.{Polynomial}
use Rattle.alg_pairs.specs.declared.pair.Pair.{Pair}
use Rattle.alg_groebner.specs.State.{State, End, Next, Goes, Ends}
use Rattle.alg_groebner.specs.Machine.{made, counted, by_pairs, by_inputs, by_reducible, by_reducer, by_line, by_current, by_power, next}
use Rattle.alg_groebner.specs.Choices.{reducer, first_reducible, zero_power}
use Rattle.alg_groebner.specs.Moves.{next_taken}
use Rattle.alg_groebner.specs.Follows.{Follows, now, later}
use Rattle.alg_groebner.specs.Runs.{powers, first_state}
use Rattle.alg_groebner.specs.Sound.{IsThere, HasBoth, AreMembers, step_count, IsSound}
use Rattle.alg_groebner.proofs.Found.{same_some, none_some}
use Rattle.alg_groebner.proofs.Keeping.{goes_kept}

-- ---- a proof comes of a zero, and where there is none, none of all powers came to zero
module _ (limit : ℕ) where
  Says : State → Next → Type 0
  Says st (Goes to) = Unit {0}
  Says st (Ends (End.Proved r)) = zero_power st.remainders ≡ Some r
  Says st (Ends (End.NoneUpTo r)) = r ≡ length st.remainders
  Says st (Ends End.GaveUp) = Unit {0}
  Says st (Ends End.Range) = Unit {0}
  Says st (Ends End.Degree) = Unit {0}

  counted_says : (st to : State) (o : Outcome) → Says st (counted limit st o to)
  unfolding Says
  counted_says st to o =
      elim (nat_lt st.count limit) as (λ b. Says st (cond b (made o to) (Ends End.GaveUp))) [
        | true ↦ made_says o
        | false ↦ tt
      ]
    where
      made_says : (o : Outcome) → Says st (made o to)
      made_says Outcome.Fine = tt
      made_says Outcome.Range = tt
      made_says Outcome.Degree = tt

  pairs_says : (st : State) (xs : List Pair) → Says st (by_pairs limit st xs)
  unfolding Says
  pairs_says st [] = refl
  pairs_says st (x ∷ rest) = counted_says st _ _

  inputs_says : (st : State) → Says st (by_inputs limit st)
  unfolding Says
  inputs_says st =
      elim (nat_lt st.taken st.given) as (λ b. Says st (cond b (Goes (next_taken st)) (by_pairs limit st st.pairs))) [
        | true ↦ tt
        | false ↦ pairs_says st st.pairs
      ]

  reducible_says : (st : State) (o : Option (ℕ × ℕ)) → Says st (by_reducible limit st o)
  unfolding Says
  reducible_says st None = inputs_says st
  reducible_says st (Some x) = counted_says st _ _

  reducer_says : (st : State) (k : ℕ) (o : Option ℕ) → Says st (by_reducer limit st k o)
  unfolding Says
  reducer_says st k None = tt
  reducer_says st k (Some j) = counted_says st _ _

  line_says : (st : State) (k : ℕ) (p : Polynomial) → Says st (by_line limit st k p)
  unfolding Says
  line_says st k [] = tt
  line_says st k (e ∷ p) = reducer_says st k (reducer st.lines st.basis (e ∷ p))

  current_says : (st : State) (o : Option ℕ) → Says st (by_current limit st o)
  unfolding Says
  current_says st None = reducible_says st (first_reducible st.lines st.basis 0 st.remainders)
  current_says st (Some k) = line_says st k (Rattle.alg_lines.specs.Lines.line_at st.lines k)

  power_says : (st : State) (o : Option ℕ) → zero_power st.remainders ≡ o → Says st (by_power limit st o)
  unfolding Says
  power_says st None e = current_says st st.current
  power_says st (Some r) e = e

  pub zero_found : (st : State) (r : ℕ) → next limit st ≡ Ends (End.Proved r) → zero_power st.remainders ≡ Some r
  unfolding Says next
  zero_found st r e = subst (Says st) e (power_says st (zero_power st.remainders) refl)

  pub none_found : (st : State) (r : ℕ) → next limit st ≡ Ends (End.NoneUpTo r) → r ≡ length st.remainders
  unfolding Says next
  none_found st r e = subst (Says st) e (power_says st (zero_power st.remainders) refl)

  -- the state where a run ends is sound, and its next step is the end
  pub runs_sound : (st last : State) (e : End) → Follows limit st last e → IsSound limit st → IsSound limit last ×
      (next limit last ≡ Ends e)
  runs_sound st last e (now h) s = (s, h)
  runs_sound st last e (later {to = to} h r) s = runs_sound to last e r ((goes_kept limit st to s h).0)

pub position_within : {A : Type 0} (t : A → Bool) (n : ℕ) (xs : List A) (r : ℕ) → position_from t n xs ≡ Some r →
    (n ≤ r) × (r < n + length xs)
position_within t n [] r e = absurd (none_some r e)
position_within t n (x ∷ xs) r e =
    elim (t x) as (λ b. cond b (Some n) (position_from t (n + 1) xs) ≡ Some r → (n ≤ r) × (r < n + length (x ∷ xs))) [
      | true ↦ λ s. let q = same_some n r s in (omega arith, omega arith)
      | false ↦ λ s. let h = position_within t (n + 1) xs r s in let low = h.0 in let high = h.1 in
          (omega arith, omega arith)
    ] e

-- ---- the first state
pub length-powers : (g : Polynomial) (r n : ℕ) → length (powers g r n) ≡ n
length-powers g r zero = refl
length-powers g r (suc n) = ap suc (length-powers g (r + 1) n)

no_steps : (g : Polynomial) (r n : ℕ) → step_count (powers g r n) ≡ 0
no_steps g r zero = refl
no_steps g r (suc n) = let e = no_steps g (r + 1) n in omega arith

pub first_sound : (hyps : List Polynomial) (g : Polynomial) (power limit : ℕ) → length hyps < 2 ^ 31 → power ≤ 16 →
    limit ≤ 1000000 →
    IsSound limit (first_state hyps (powers g 1 power))
first_sound hyps g power limit few small low = record {
  hypotheses = few;
  limited = omega arith;
  counted = omega arith;
  lines = omega arith;
  made = omega arith;
  spent = omega (arith, no_steps g 1 power);
  taken = omega arith;
  powers = omega (arith, length-powers g 1 power);
  basis = All-nil (IsThere hyps);
  pairs = All-nil (HasBoth hyps);
  members = All-nil (AreMembers []);
  current = tt;
}
