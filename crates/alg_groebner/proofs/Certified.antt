-- The certificate of a run that came to zero is good.
use Rattle.std.specs.Prelude.{◌≡◌, ℕ, zero, suc, ◌+◌, ◌-◌, ◌<◌, ◌≤◌, ◌^◌, Bool, true, false, cond, List, [], ◌∷◌, ◌++◌, Some, drop, map, length, replicate, All}
use Rattle.std.proofs.Common.{refl, sym, ap, subst, ◌∙◌, arith}
use Rattle.std.specs.List.{position_from}
use Rattle.std.proofs.lemmas.List.{length-append, length-replicate, get_or_append_left, get_or-replicate}
use Rattle.alg_mono.specs.Outcomes.{Outcome, first_breach, power_outcome, is_nothing}
use Rattle.alg_mono.specs.NumberedPolynomials.{Polynomial, power_of}
use Rattle.alg_lines.specs.Accepting.{AreLines, AreSteps, IsGood, good}
use Rattle.alg_lines.specs.declared.cert.Line.{Line}
use Rattle.alg_lines.specs.declared.cert.GoalStep.{GoalStep}
use Rattle.alg_groebner.specs.State.{State, End}
use Rattle.alg_groebner.specs.Choices.{remainder_at}
use Rattle.alg_groebner.specs.Pruning.{mark, mark_steps, marks_of, numbers_after, renumbered_step, kept_lines, certificate_from, certificate}
use Rattle.alg_groebner.specs.Follows.{Follows}
use Rattle.alg_groebner.specs.Runs.{Comes, runs, too_great, too_high, powers, powers_outcome, first_state}
use Rattle.alg_groebner.specs.Sound.{IsSound}
use Rattle.alg_groebner.specs.Laws.{CertificatesAreGood}
use Rattle.alg_groebner.specs.declared.remainder.Remainder.{Remainder}
use Rattle.alg_groebner.proofs.Found.{same_some, none_some}
use Rattle.alg_groebner.proofs.Ordered.{first_in_order, follows_if_runs}
use Rattle.alg_groebner.proofs.Ending.{runs_sound, zero_found, position_within, first_sound}
use Rattle.alg_groebner.proofs.Followed.{IsP, IsFaithful, AllSteps, moves_follow}
use Rattle.alg_groebner.proofs.Kept.{At, keep, AllCited, lines_kept, steps_kept, closed, bounded, lines_rise, steps_rise, set_here}
use Rattle.alg_groebner.proofs.Pruned.{length-marks_of, length-mark_lines, length-mark_steps}
use Rattle.alg_groebner.proofs.Walked.{run_keeps}

-- ---- the marks of a certificate
all_hypotheses : (s n k : ℕ) → k < s → At (replicate s true ++ replicate n false) k
all_hypotheses s n k h =
    get_or_append_left (replicate s true) (replicate n false) false k (let l = length-replicate s true in omega arith)
    ∙ get_or-replicate s k true false h

cited : (ss : List GoalStep) (bs : List Bool) (all : List Polynomial) (g h : Polynomial) → AreSteps all g ss h →
    length all ≤ length bs →
    AllCited (mark_steps ss bs) ss
cited [] bs all g h a l = tt
cited (s ∷ ss) bs all g h a l =
    let low = a.1.0.line.0 in
    let high = a.1.0.line.1 in (
      steps_rise ss (mark bs s.j) (s.j - 1) (set_here bs (s.j - 1) (omega arith)),
      cited ss (mark bs s.j) all a.0 h a.2 (omega (arith, Rattle.std.proofs.lemmas.List.length-set bs (s.j - 1) true)),
    )

cited_more : (bs cs : List Bool) (ss : List GoalStep) → ((k : ℕ) → At bs k → At cs k) → AllCited bs ss → AllCited cs ss
cited_more bs cs [] f c = tt
cited_more bs cs (s ∷ ss) f c = (f (s.j - 1) c.0, cited_more bs cs ss f c.1)

keep_all : {X : Type 0} (bs : List Bool) (xs : List X) → ((k : ℕ) → k < length xs → At bs k) → keep bs xs ≡ xs
keep_all [] [] f = refl
keep_all [] (x ∷ xs) f = absurd (let e = f 0 (omega arith) in let n : false ≡ true = e in grind arith)
keep_all (b ∷ bs) [] f = refl
keep_all (true ∷ bs) (x ∷ xs) f = ap (λ ys. x ∷ ys) (keep_all bs xs (λ k h. f (suc k) (omega arith)))
keep_all (false ∷ bs) (x ∷ xs) f = absurd (let e = f 0 (omega arith) in let n : false ≡ true = e in grind arith)

pub length-lines : (lines : List Polynomial) (ls : List Line) (all : List Polynomial) → AreLines lines ls all →
    length all ≡ length lines + length ls
length-lines lines [] all a = let e = ap (λ (xs : List Polynomial). length xs) a in omega arith
length-lines lines (l ∷ ls) all a =
    let longer = length-append lines (a.0 ∷ []) in
    let rest = length-lines (lines ++ a.0 ∷ []) ls all a.2 in
    omega arith

-- what is pruned is good where the whole is
pruned_good : (hyps : List Polynomial) (made : List Line) (all : List Polynomial) (g : Polynomial)
    (ss : List GoalStep) →
    AreLines hyps made all → AreSteps all g ss [] →
    let bs = marks_of (length hyps) made ss in
    AreLines hyps (kept_lines (numbers_after 0 bs) (drop (length hyps) bs) made) (keep bs all)
    × AreSteps (keep bs all) g (map (renumbered_step (numbers_after 0 bs)) ss) []
pruned_good hyps made all g ss a b =
    let s = length hyps in
    let first = replicate s true ++ replicate (length made) false in
    let stepped = mark_steps ss first in
    let bs = marks_of s made ss in
    let size = length-marks_of s made ss in
    let size_first : length first ≡ s + length made =
    length-append (replicate s true) (replicate (length made) false) ∙
    (λ i. length-replicate s true i + length-replicate (length made) false i) in
    let size_stepped = length-mark_steps ss first in
    let total = length-lines hyps made all a in
    let hypotheses = keep_all bs hyps (λ k h. lines_rise s made stepped k
    (steps_rise ss first k (all_hypotheses s (length made) k h))) in
    let whole = closed s made stepped (bounded hyps s made all refl a) (omega arith)
    (λ q ks. length-mark_lines q ks stepped) in
    let steps = cited_more stepped bs ss (λ k h. lines_rise s made stepped k h)
    (cited ss first all g [] b (omega arith)) in
    let lines = lines_kept bs hyps s made all refl (omega arith) a whole in (
      subst (λ (xs : List Polynomial). AreLines xs (kept_lines (numbers_after 0 bs) (drop s bs) made) (keep bs all))
          hypotheses lines,
      steps_kept bs all g ss [] b steps,
    )

-- ---- the run
pub runs_faithful : (hyps : List Polynomial) (g : Polynomial) (limit : ℕ) (st last : State) (e : End) →
    Follows limit st last e → IsSound limit st → IsFaithful hyps g st → IsFaithful hyps g last
runs_faithful hyps g limit st last e ran s f = run_keeps (moves_follow hyps g) limit st last e ran s f

IsFine : Outcome → Type 0
IsFine Outcome.Fine = Unit {0}
IsFine Outcome.Range = ⊥
IsFine Outcome.Degree = ⊥

pub both_fine : (o p : Outcome) → first_breach o p ≡ Outcome.Fine → (o ≡ Outcome.Fine) × (p ≡ Outcome.Fine)
unfolding IsFine
both_fine Outcome.Fine p e = (refl, e)
both_fine Outcome.Range p e = absurd (subst IsFine (sym e) tt)
both_fine Outcome.Degree p e = absurd (subst IsFine (sym e) tt)

first_steps : (lines : List Polynomial) (g : Polynomial) (r n : ℕ) → powers_outcome g r n ≡ Outcome.Fine → AllSteps
    lines g r (powers g r n)
first_steps lines g r zero e = tt
first_steps lines g r (suc n) e =
    let both = both_fine (power_outcome g r) (powers_outcome g (r + 1) n) e in
    (both.0, refl, first_steps lines g (r + 1) n both.1)

-- the remainder that is zero, with its power
zero_steps : (lines : List Polynomial) (g : Polynomial) (n : ℕ) (gs : List Remainder) (r : ℕ) → AllSteps lines g n gs →
    position_from (λ (x : Remainder). is_nothing x.rest) n gs ≡ Some r →
    (power_outcome g r ≡ Outcome.Fine) × AreSteps lines (power_of g r) (remainder_at gs (r - n)).steps []
zero_steps lines g n [] r h e = absurd (none_some r e)
zero_steps lines g n (x ∷ xs) r h e =
    elim (is_nothing x.rest) as (λ b. is_nothing x.rest ≡ b →
    cond b (Some n) (position_from (λ (x : Remainder). is_nothing x.rest) (n + 1) xs) ≡ Some r →
    (power_outcome g r ≡ Outcome.Fine) × AreSteps lines (power_of g r) (remainder_at (x ∷ xs) (r - n)).steps []) [
      | true ↦ λ z q.
          let same = same_some n r q in (
            subst (λ k. power_outcome g k ≡ Outcome.Fine) same h.0,
            subst (λ (y : Remainder). AreSteps lines (power_of g r) y.steps []) (sym (here x xs (r - n) (omega arith)))
                (subst (λ k. AreSteps lines (power_of g k) x.steps []) same
                (subst (λ (p : Polynomial). AreSteps lines (power_of g n) x.steps p) (empty x.rest z) h.1)),
          )
      | false ↦ λ z q.
          let w = position_within (λ (x : Remainder). is_nothing x.rest) (n + 1) xs r q in
          let low = w.0 in
          let further = zero_steps lines g (n + 1) xs r h.2 q in (
            further.0,
            subst (λ (y : Remainder). AreSteps lines (power_of g r) y.steps [])
                (sym (there x xs (r - n) (r - (n + 1)) (omega arith))) further.1,
          )
    ] refl e
  where
    here : (x : Remainder) (xs : List Remainder) (d : ℕ) → d ≡ 0 → remainder_at (x ∷ xs) d ≡ x
    here x xs d z = ap (remainder_at (x ∷ xs)) z

    there : (x : Remainder) (xs : List Remainder) (d m : ℕ) → d ≡ suc m → remainder_at (x ∷ xs) d ≡ remainder_at xs m
    there x xs d m z = ap (remainder_at (x ∷ xs)) z

    empty : (p : Polynomial) → is_nothing p ≡ true → p ≡ []
    empty [] e = refl
    empty (e ∷ p) h = absurd (let n : false ≡ true = h in grind arith)

-- ---- the law
module _ (hyps : List Polynomial) (g : Polynomial) (limit : ℕ) where
  pub faithful_first : (power : ℕ) → All IsP hyps → powers_outcome g 1 power ≡ Outcome.Fine → IsFaithful hyps g
      (first_state hyps (powers g 1 power))
  faithful_first power polys fine = record { polys = polys; lines = refl; steps = first_steps hyps g 1 power fine }

  abbrev Pruned : List Line → List Polynomial → List GoalStep → Polynomial → ℕ → Type 0
  Pruned made all ss start s =
      let bs = marks_of s made ss in
      AreLines hyps (kept_lines (numbers_after 0 bs) (drop s bs) made) (keep bs all)
      × AreSteps (keep bs all) start (map (renumbered_step (numbers_after 0 bs)) ss) []

  run_good : (first last : State) (r : ℕ) → Follows limit first last (End.Proved r) → IsSound limit first → IsFaithful
      hyps g first → IsGood hyps g (certificate last r)
  unfolding certificate_from
  run_good first last r ran s f =
      let at_end = runs_sound limit first last (End.Proved r) ran s in
      let faith = runs_faithful hyps g limit first last (End.Proved r) ran s f in
      let found = zero_found limit last r at_end.1 in
      let within = position_within (λ (x : Remainder). is_nothing x.rest) 1 last.remainders r found in
      let zero = zero_steps last.lines g 1 last.remainders r faith.steps found in
      let ss = (remainder_at last.remainders (r - 1)).steps in
      let total = length-lines hyps last.made last.lines faith.lines in
      let sum = at_end.0.lines in
      let few = at_end.0.powers in
      let given : last.given ≡ length hyps = omega arith in
      let parts = subst (Pruned last.made last.lines ss (power_of g r)) (sym given)
      (pruned_good hyps last.made last.lines (power_of g r) ss faith.lines zero.1) in
      let high = within.1 in
      good (keep (marks_of last.given last.made ss) last.lines) ((within.0, omega arith), zero.0) (parts.0, parts.1)

  come_good : (power : ℕ) (last : State) (e : End) (r : ℕ) → All IsP hyps → length hyps < 2 ^ 31 → power ≤ 16 → limit
      ≤ 1000000 →
      Comes hyps g power limit last e → e ≡ End.Proved r → IsGood hyps g (certificate last r)
  come_good power last e r polys few small low (too_great t) q = absurd (grind arith)
  come_good power last e r polys few small low (too_high t) q = absurd (grind arith)
  come_good power last e r polys few small low (runs f ran) q =
      let first = first_state hyps (powers g 1 power) in
      let computed = follows_if_runs limit first last e (first_in_order hyps (powers g 1 power)) ran in
      run_good first last r (subst (λ (x : End). Follows limit first last x) q computed)
      (first_sound hyps g power limit few small low) (faithful_first power polys f)

pub certificates_are_good : CertificatesAreGood
certificates_are_good hyps g power limit polys few small low last r c =
    come_good hyps g limit power last (End.Proved r) r polys few small low c refl
