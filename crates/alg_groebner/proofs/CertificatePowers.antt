-- The power of a run's certificate is one of those that are sought, and so is the greatest that a run tells: no move adds
-- a power of the goal or takes one away.
use Rattle.std.specs.Prelude.{◌≡◌, ℕ, ◌<◌, ◌≤◌, ◌^◌, List, length}
use Rattle.std.proofs.Common.{refl, ap, ◌∙◌, arith}
use Rattle.std.proofs.lemmas.List.{length-set}
use Rattle.alg_mono.specs.NumberedPolynomials.{Polynomial}
use Rattle.alg_mono.specs.Outcomes.{is_nothing}
use Rattle.alg_groebner.specs.declared.remainder.Remainder.{Remainder}
use Rattle.alg_groebner.specs.Laws.{PowersAreSought}
use Rattle.alg_groebner.specs.Moves.{with_line}
use Rattle.alg_groebner.specs.Pruning.{certificate, certificate_from}
use Rattle.alg_groebner.specs.Runs.{Comes, Runs, first_state, powers, runs, too_great, too_high}
use Rattle.alg_groebner.specs.Machine.{next}
use Rattle.alg_groebner.specs.State.{State, End, Ends}
use Rattle.alg_groebner.proofs.Ending.{first_sound, length-powers, none_found, position_within, runs_sound, zero_found}
use Rattle.alg_groebner.proofs.Ordered.{first_in_order, follows_if_runs}
use Rattle.alg_groebner.proofs.Walked.{IsKept, run_keeps}

module _ (power : ℕ) where
  abbrev HasPowers : State → Type 0
  HasPowers st = length st.remainders ≡ power

  moves_keep : IsKept HasPowers
  unfolding with_line
  moves_keep = record {
    goal = λ st r j h low reduces fine. length-set st.remainders r _ ∙ h;
    line = λ st k j h there reduces fine. h;
    pair = λ st rest i j h first second fine. h;
    drops = λ st h. h;
    joins = λ st k h. h;
    takes = λ st h. h;
  }

  module _ (hyps : List Polynomial) (g : Polynomial) (limit : ℕ) (few : length hyps < 2 ^ 31) (small : power ≤ 16)
      (low : limit ≤ 1000000) where
    -- a run ends in a state with a remainder for each power that is sought
    ended : (last : State) (e : End) → Runs limit (first_state hyps (powers g 1 power)) last e →
        HasPowers last × (next limit last ≡ Ends e)
    ended last e ran =
        let first = first_state hyps (powers g 1 power) in
        let computed = follows_if_runs limit first last e (first_in_order hyps (powers g 1 power)) ran in
        let sound = first_sound hyps g power limit few small low in (
          run_keeps moves_keep limit first last e computed sound (length-powers g 1 power),
          (runs_sound limit first last e computed sound).1,
        )

    sought : (last : State) (e : End) (r : ℕ) → Comes hyps g power limit last e → e ≡ End.Proved r →
        (certificate last r).power ≤ power
    unfolding certificate_from
    sought last e r (too_great t) q = absurd (grind arith)
    sought last e r (too_high t) q = absurd (grind arith)
    sought last e r (runs f ran) q =
        let (count, ends) = ended last e ran in
        let found = zero_found limit last r (ends ∙ ap Ends q) in
        let high = (position_within (λ (x : Remainder). is_nothing x.rest) 1 last.remainders r found).1 in
        omega (arith, count, high)

    none_sought : (last : State) (e : End) (r : ℕ) → Comes hyps g power limit last e → e ≡ End.NoneUpTo r → r ≤ power
    none_sought last e r (too_great t) q = absurd (cc)
    none_sought last e r (too_high t) q = absurd (cc)
    none_sought last e r (runs f ran) q =
        let (count, ends) = ended last e ran in
        let all = none_found limit last r (ends ∙ ap Ends q) in
        omega (arith, count, all)

pub powers_are_sought : PowersAreSought
powers_are_sought = record {
  proved =
      λ hyps g power limit few small low last r c.
      sought power hyps g limit few small low last (End.Proved r) r c refl;
  none =
      λ hyps g power limit few small low last r c.
      none_sought power hyps g limit few small low last (End.NoneUpTo r) r c refl;
}
