-- The lines of a run cite earlier lines, and its steps cite lines.
use Rattle.std.specs.Prelude.{◌≡◌, ℕ, zero, suc, ◌+◌, ◌<◌, ◌≤◌, ◌^◌, List, [], ◌∷◌, length, All}
use Rattle.std.proofs.Common.{refl, sym, subst, arith}
use Rattle.alg_mono.specs.NumberedPolynomials.{Polynomial, power_of}
use Rattle.alg_lines.specs.Accepting.{AreSteps}
use Rattle.alg_lines.specs.declared.cert.GoalStep.{GoalStep}
use Rattle.alg_groebner.specs.Choices.{remainder_at}
use Rattle.alg_groebner.specs.Cited.{CiteEarlier, CiteLines}
use Rattle.alg_groebner.specs.Follows.{Follows}
use Rattle.alg_groebner.specs.Laws.{RunsCite}
use Rattle.alg_groebner.specs.Runs.{Comes, runs, too_great, too_high, powers, first_state}
use Rattle.alg_groebner.specs.Sound.{IsSound}
use Rattle.alg_groebner.specs.State.{State, End}
use Rattle.alg_groebner.specs.declared.remainder.Remainder.{Remainder}
use Rattle.alg_groebner.proofs.Certified.{length-lines, runs_faithful, faithful_first}
use Rattle.alg_groebner.proofs.Ending.{runs_sound, first_sound}
use Rattle.alg_groebner.proofs.Followed.{IsP, IsFaithful, AllSteps}
use Rattle.alg_groebner.proofs.Kept.{bounded}
use Rattle.alg_groebner.proofs.Ordered.{first_in_order, follows_if_runs}

-- ---- steps
steps_cite : (n : ℕ) (lines : List Polynomial) (g h : Polynomial) (ss : List GoalStep) → n ≡ length lines →
    AreSteps lines g ss h → CiteLines n ss
steps_cite n lines g h [] e a = tt
steps_cite n lines g h (s ∷ ss) e a =
    let low = a.1.0.line.0 in
    let high = a.1.0.line.1 in
    ((omega arith, omega arith), steps_cite n lines a.0 h ss e a.2)

all_cite : (n : ℕ) (lines : List Polynomial) (g : Polynomial) (k : ℕ) (gs : List Remainder) (r : ℕ) →
    n ≡ length lines → AllSteps lines g k gs → CiteLines n (remainder_at gs r).steps
all_cite n lines g k [] r e h = tt
all_cite n lines g k (x ∷ xs) zero e h = steps_cite n lines (power_of g k) x.rest x.steps e h.1
all_cite n lines g k (x ∷ xs) (suc r) e h = all_cite n lines g (k + 1) xs r e h.2

-- the powers that a search begins with have no steps
none_cite : (n : ℕ) (g : Polynomial) (k power r : ℕ) → CiteLines n (remainder_at (powers g k power) r).steps
none_cite n g k zero r = tt
none_cite n g k (suc power) zero = tt
none_cite n g k (suc power) (suc r) = none_cite n g (k + 1) power r

-- ---- the run
abbrev Cites : State → Type 0
Cites st =
    CiteEarlier st.given st.made
    × ((r : ℕ) → CiteLines (st.given + length st.made) (remainder_at st.remainders r).steps)

module _ (hyps : List Polynomial) (g : Polynomial) (limit : ℕ) where
  run_cites : (first last : State) (e : End) → Follows limit first last e → IsSound limit first →
      IsFaithful hyps g first → Cites last
  run_cites first last e ran s f =
      let sound = (runs_sound limit first last e ran s).0 in
      let faith = runs_faithful hyps g limit first last e ran s f in
      let total = length-lines hyps last.made last.lines faith.lines in
      let sum = sound.lines in
      let given : last.given ≡ length hyps = omega arith in (
        subst (λ n. CiteEarlier n last.made) (sym given)
            (bounded hyps (length hyps) last.made last.lines refl faith.lines),
        λ r. all_cite (last.given + length last.made) last.lines g 1 last.remainders r (omega arith) faith.steps,
      )

  come_cites : (power : ℕ) (last : State) (e : End) → All IsP hyps → length hyps < 2 ^ 31 → power ≤ 16 →
      limit ≤ 1000000 → Comes hyps g power limit last e → Cites last
  come_cites power last e polys few small low (too_great t) = (tt, λ r. none_cite (length hyps + 0) g 1 power r)
  come_cites power last e polys few small low (too_high t) = (tt, λ r. none_cite (length hyps + 0) g 1 power r)
  come_cites power last e polys few small low (runs f ran) =
      let first = first_state hyps (powers g 1 power) in
      run_cites first last e (follows_if_runs limit first last e (first_in_order hyps (powers g 1 power)) ran)
      (first_sound hyps g power limit few small low) (faithful_first hyps g limit power polys f)

pub runs_cite : RunsCite
runs_cite hyps g power limit polys few small low last e c = come_cites hyps g limit power last e polys few small low c
