-- What the search answers, and that its certificates are short.
use Rattle.std.specs.Prelude.{◌≡◌, ℕ, zero, suc, ◌+◌, ◌-◌, ◌<◌, ◌≤◌, ◌^◌, Bool, true, false, List, [], ◌∷◌, Ok, Err, length, drop}
use Rattle.std.proofs.Common.{sym, ap, subst, ◌∙◌, arith}
use Rattle.std.proofs.lemmas.List.{length-map}
use Rattle.alg_mono.specs.NumberedPolynomials.{Polynomial}
use Rattle.alg_mono.specs.Outcomes.{Outcome, is_nothing}
use Rattle.alg_mono.specs.Refusals.{RefusesWith}
use Rattle.alg_mono.specs.declared.ends.Overrun.{Overrun}
use Rattle.alg_mono.specs.declared.ends.Overrun.TheVariants as overruns
use Rattle.alg_lines.specs.declared.cert.Cert.{Cert}
use Rattle.alg_lines.specs.declared.cert.GoalStep.{GoalStep}
use Rattle.alg_lines.specs.declared.cert.Line.{Line}
use Rattle.alg_groebner.specs.Choices.{remainder_at}
use Rattle.alg_groebner.specs.Pruning.{marks_of, numbers_after, renumbered_step, kept_lines, certificate_from, certificate}
use Rattle.alg_groebner.specs.Follows.{Follows}
use Rattle.alg_groebner.specs.Runs.{Comes, too_great, too_high, runs, powers, powers_outcome, first_state}
use Rattle.alg_groebner.specs.Sound.{step_count, IsSound}
use Rattle.alg_groebner.specs.State as state
use Rattle.alg_groebner.specs.State.{State, End}
use Rattle.alg_groebner.specs.Steps.{RunsAs, work_certificate}
use Rattle.alg_groebner.specs.Verdicts.{Decides, IsWithinLimit}
use Rattle.alg_groebner.specs.Work.{Work}
use Rattle.alg_groebner.specs.declared.decide.Verdict.TheVariants as verdicts
use Rattle.alg_groebner.specs.declared.machine.Ending.TheVariants as endings
use Rattle.alg_groebner.specs.declared.remainder.Remainder.{Remainder}
use Rattle.alg_groebner.proofs.Ordered.{first_in_order, runs_if_follows}
use Rattle.alg_groebner.proofs.Ending.{first_sound, runs_sound, zero_found, position_within}

pub refused_powers : (hyps : List Polynomial) (g : Polynomial) (power limit : ℕ) (e : Overrun) → RefusesWith e
    (powers_outcome g 1 power) →
    Decides hyps g power limit (Err e)
refused_powers hyps g power limit overruns.Range t = (_, too_great t)
refused_powers hyps g power limit overruns.Degree t = (_, too_high t)
refused_powers hyps g power limit overruns.NoMemory t = tt

-- ---- short certificates
kept_few : (numbers : List ℕ) (marks : List Bool) (ls : List Line) → length (kept_lines numbers marks ls) ≤ length ls
kept_few numbers marks [] = omega arith
kept_few numbers [] (l ∷ ls) = omega arith
kept_few numbers (true ∷ marks) (l ∷ ls) = let h = kept_few numbers marks ls in omega arith
kept_few numbers (false ∷ marks) (l ∷ ls) = let h = kept_few numbers marks ls in omega arith

steps_few : (gs : List Remainder) (r : ℕ) → length (remainder_at gs r).steps ≤ step_count gs
steps_few [] r = omega arith
steps_few (g ∷ gs) zero = here (length g.steps) (step_count gs)
  where
    here : (a b : ℕ) → a ≤ a + b
    here a b = omega arith
steps_few (g ∷ gs) (suc r) = further (length g.steps) (length (remainder_at gs r).steps) (step_count gs)
    (steps_few gs r)
  where
    further : (c a b : ℕ) → a ≤ b → a ≤ c + b
    further c a b h = omega arith

pruned_few : (given : ℕ) (made : List Line) (steps : List GoalStep) (power : ℕ) →
    length (certificate_from given made steps power).lines + length (certificate_from given made steps power).steps
    ≤ length made + length steps
unfolding certificate_from
pruned_few given made steps power =
    let marks = marks_of given made steps in
    let few = kept_few (numbers_after 0 marks) (drop given marks) made in
    let same = length-map steps (renumbered_step (numbers_after 0 marks)) in
    omega (arith, few, same)

pub certificate_short : (limit : ℕ) (st : State) (power : ℕ) → IsSound limit st →
    length (certificate st power).lines + length (certificate st power).steps ≤ limit
certificate_short limit st power s =
    let few = pruned_few st.given st.made (remainder_at st.remainders (power - 1)).steps power in
    let least = steps_few st.remainders (power - 1) in
    let spent = s.spent in
    let counted = s.counted in
    omega (arith, few, least)

module _ (hyps : List Polynomial) (g : Polynomial) (power limit : ℕ) (few : length hyps < 2 ^ 31) (small : power ≤ 16)
    (low : limit ≤ 1000000)
    (fine : powers_outcome g 1 power ≡ Outcome.Fine) where
  abbrev pub first : State
  first = first_state hyps (powers g 1 power)

  -- the computed run is the run
  pub came : (last : State) (e : End) → Follows limit first last e → Comes hyps g power limit last e
  came last e h = runs fine (runs_if_follows limit first last e (first_in_order hyps (powers g 1 power)) h)

  pub refused_run : (w : Work) (e : Overrun) → RunsAs limit first (Err e) w → Decides hyps g power limit (Err e)
  refused_run w overruns.Range h = (h.0, came h.0 state.Range h.1)
  refused_run w overruns.Degree h = (h.0, came h.0 state.Degree h.1)
  refused_run w overruns.NoMemory h = tt

  -- where a power came to zero there is its remainder, and all lines have numbers
  pub proved_bounds : (r : ℕ) (w : Work) → RunsAs limit first (Ok (endings.Proved r)) w →
      (1 ≤ r) × (r ≤ length w.remainders) × (w.given + length w.made < 2 ^ 32)
  proved_bounds r w h =
      let last = h.0 in
      let at_end = runs_sound limit first last (state.Proved r) h.1 (first_sound hyps g power limit few small low) in
      let zero = position_within (λ (g : Remainder). is_nothing g.rest) 1 last.remainders r
      (zero_found limit last r at_end.1) in
      let sound = at_end.0 in
      let low = zero.0 in
      let high = zero.1 in
      let gs = ap (λ (xs : List Remainder). length xs) h.4 in
      let ls = ap (λ (xs : List Line). length xs) h.3 in
      let n = h.2 in
      let given = sound.hypotheses in
      let made = sound.made in
      let count = sound.counted in
      let limited = sound.limited in
      (low, omega arith, omega arith)

  same_certificate : (w : Work) (last : State) (r : ℕ) → w.given ≡ last.given → w.made ≡ last.made → w.remainders ≡
      last.remainders →
      work_certificate w r ≡ certificate last r
  same_certificate w last r a b c = λ i. certificate_from (a i) (b i) (remainder_at (c i) (r - 1)).steps r

  pub proved : (r : ℕ) (w : Work) (cert : Cert) → RunsAs limit first (Ok (endings.Proved r)) w → cert ≡
      work_certificate w r →
      Decides hyps g power limit (Ok (verdicts.Proved cert)) × IsWithinLimit limit (Ok (verdicts.Proved cert))
  proved r w cert h e =
      let last = h.0 in
      let is = e ∙ same_certificate w last r h.2 h.3 h.4 in
      let sound = (runs_sound limit first last (state.Proved r) h.1 (first_sound hyps g power limit few small low)).0
      in (
        (last, r, came last (state.Proved r) h.1, is),
        subst (λ (c : Cert). length c.lines + length c.steps ≤ limit) (sym is) (certificate_short limit last r sound),
      )
