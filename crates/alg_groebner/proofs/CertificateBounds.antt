-- The certificate of a run over n atoms is within the limits.
use Rattle.std.specs.Prelude.{◌≡◌, ℕ, zero, suc, ◌+◌, ◌-◌, ◌<◌, ◌≤◌, ◌^◌, Bool, true, false, List, [], ◌∷◌, length, drop, map, All, slice_index_or}
use Rattle.std.proofs.Common.{refl, subst, arith}
use Rattle.std.proofs.lemmas.List.Elements.{All-nil, All-cons, All-head, All-tail, All-get_or}
use Rattle.alg_mono.specs.NumberedPolynomials.{Polynomial}
use Rattle.alg_mono.specs.Outcomes.{is_nothing}
use Rattle.alg_lines.specs.declared.cert.GoalStep.{GoalStep}
use Rattle.alg_lines.specs.declared.cert.Line.{Line}
use Rattle.alg_groebner.specs.Choices.{remainder_at}
use Rattle.alg_groebner.specs.declared.remainder.Remainder.{Remainder}
use Rattle.alg_groebner.specs.Follows.{Follows}
use Rattle.alg_groebner.specs.Laws.{CertificatesAreWithin}
use Rattle.alg_groebner.specs.Pruning.{certificate, certificate_from, kept_lines, marks_of, number_of, numbers_after, renumbered_step}
use Rattle.alg_groebner.specs.Runs.{Comes, first_state, powers, runs, too_great, too_high}
use Rattle.alg_groebner.specs.Sound.{IsSound}
use Rattle.alg_groebner.specs.State.{State, End}
use Rattle.alg_groebner.specs.Within.{IsCertWithin, IsLineWithin, IsOverAtoms, IsStepWithin}
use Rattle.alg_groebner.proofs.Bounded.{Holds, IsRemainder, LineHolds, StepHolds, first_holds, moves_hold}
use Rattle.alg_groebner.proofs.Ending.{first_sound, position_within, runs_sound, zero_found}
use Rattle.alg_groebner.proofs.Ordered.{first_in_order, follows_if_runs}
use Rattle.alg_groebner.proofs.Pruned.{length-marks_of}
use Rattle.alg_groebner.proofs.Walked.{run_keeps}

module _ (n : ℕ) where
  -- the new numbers of lines are no greater than their count
  numbers_small : (last : ℕ) (marks : List Bool) (k : ℕ) →
      slice_index_or (numbers_after last marks) k 0 ≤ last + length marks
  numbers_small last [] k = omega arith
  numbers_small last (true ∷ marks) zero = omega arith
  numbers_small last (false ∷ marks) zero = omega arith
  numbers_small last (true ∷ marks) (suc k) = let h = numbers_small (last + 1) marks k in omega arith
  numbers_small last (false ∷ marks) (suc k) = let h = numbers_small last marks k in omega arith

  module _ (numbers : List ℕ) (small : (k : ℕ) → number_of numbers k < 2 ^ 32) where
    lines_within : (marks : List Bool) (ls : List Line) → All (LineHolds n) ls →
        All (IsLineWithin n) (kept_lines numbers marks ls)
    lines_within marks [] h = All-nil (IsLineWithin n)
    lines_within [] (l ∷ ls) h = All-nil (IsLineWithin n)
    lines_within (true ∷ marks) (l ∷ ls) h =
        All-cons (IsLineWithin n) _ (kept_lines numbers marks ls)
        (record { within = All-head (LineHolds n) l ls h; i = small l.i; j = small l.j })
        (lines_within marks ls (All-tail (LineHolds n) l ls h))
    lines_within (false ∷ marks) (l ∷ ls) h = lines_within marks ls (All-tail (LineHolds n) l ls h)

    steps_within : (ss : List GoalStep) → All (StepHolds n) ss → All (IsStepWithin n) (map (renumbered_step numbers) ss)
    steps_within [] h = All-nil (IsStepWithin n)
    steps_within (s ∷ ss) h =
        All-cons (IsStepWithin n) (renumbered_step numbers s) (map (renumbered_step numbers) ss)
        (record { within = All-head (StepHolds n) s ss h; j = small s.j }) (steps_within ss (All-tail (StepHolds n) s ss h))

  certificate_within : (last : State) (r limit : ℕ) → IsSound limit last → Holds n last → 1 ≤ r →
      r ≤ length last.remainders → IsCertWithin n (certificate last r)
  unfolding certificate_from
  certificate_within last r limit s h low high =
      let ss = (remainder_at last.remainders (r - 1)).steps in
      let marks = marks_of last.given last.made ss in
      let size = length-marks_of last.given last.made ss in
      let small : (k : ℕ) → number_of (numbers_after 0 marks) k < 2 ^ 32 =
      λ k. omega (arith, numbers_small 0 marks (k - 1), size, s.hypotheses, s.limited, s.counted, s.made) in
      let held : IsRemainder n (remainder_at last.remainders (r - 1)) = All-get_or (IsRemainder n) last.remainders (r - 1)
      (record { rest = []; steps = [] }) (omega arith) h.remainders in
      record {
        power = omega (arith, s.powers);
        lines = lines_within (numbers_after 0 marks) small (drop last.given marks) last.made h.made;
        steps = steps_within (numbers_after 0 marks) small ss held.steps;
      }

  run_within : (first last : State) (r limit : ℕ) → Follows limit first last (End.Proved r) → IsSound limit first →
      Holds n first → IsCertWithin n (certificate last r)
  run_within first last r limit ran s h =
      let at_end = runs_sound limit first last (End.Proved r) ran s in
      let found = zero_found limit last r at_end.1 in
      let within = position_within (λ (x : Remainder). is_nothing x.rest) 1 last.remainders r found in
      let high = within.1 in
      certificate_within last r limit at_end.0 (run_keeps (moves_hold n) limit first last (End.Proved r) ran s h) within.0
      (omega arith)

  come_within : (hyps : List Polynomial) (g : Polynomial) (power limit : ℕ) (last : State) (e : End) (r : ℕ) →
      All (IsOverAtoms n) hyps → IsOverAtoms n g → length hyps < 2 ^ 31 → power ≤ 16 → limit ≤ 1000000 →
      Comes hyps g power limit last e → e ≡ End.Proved r → IsCertWithin n (certificate last r)
  come_within hyps g power limit last e r over h few small low (too_great t) q = absurd (grind arith)
  come_within hyps g power limit last e r over h few small low (too_high t) q = absurd (grind arith)
  come_within hyps g power limit last e r over h few small low (runs f ran) q =
      let first = first_state hyps (powers g 1 power) in
      let computed = follows_if_runs limit first last e (first_in_order hyps (powers g 1 power)) ran in
      run_within first last r limit
      (subst (λ (x : End). Follows limit first last x) q computed)
      (first_sound hyps g power limit few small low) (first_holds n hyps g power over h)

pub certificates_are_within : CertificatesAreWithin
certificates_are_within n hyps g power limit over h few small low last r c =
    come_within n hyps g power limit last (End.Proved r) r over h few small low c refl
