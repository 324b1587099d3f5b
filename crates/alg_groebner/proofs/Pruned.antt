-- Turns of the loops that prune.
use Rattle.std.specs.Prelude.{◌≡◌, ℕ, suc, ◌+◌, ◌-◌, ◌<◌, Bool, true, false, cond, List, [], ◌∷◌, ◌++◌, drop, map, length, replicate, slice_index_or}
use Rattle.std.proofs.Common.{get_or, refl, sym, ap, ◌∙◌, arith}
use Rattle.std.proofs.lemmas.List.{at_drop_more, append_assoc, length-set, length-append, length-replicate}
use Rattle.alg_mono.specs.Outcomes.{Outcome, first_breach, power_outcome}
use Rattle.alg_mono.specs.Refusals.{RefusesWith}
use Rattle.alg_mono.specs.declared.ends.Overrun.{Overrun}
use Rattle.alg_mono.specs.declared.ends.Overrun.TheVariants.{Range, Degree, NoMemory}
use Rattle.alg_mono.specs.NumberedPolynomials.{Polynomial, power_of}
use Rattle.alg_lines.specs.declared.cert.Line.{Line}
use Rattle.alg_lines.specs.declared.cert.GoalStep.{GoalStep}
use Rattle.alg_groebner.specs.Pruning.{mark, mark_steps, mark_line, mark_lines, marks_of, kept_lines, renumbered_line, renumbered_step, numbers_after, certificate_from}
use Rattle.alg_groebner.specs.Runs.{powers, powers_outcome}
use Rattle.alg_groebner.specs.declared.remainder.Remainder.{Remainder}
use Rattle.alg_pairs.proofs.Places.{turn}

-- one line further back
pub marked_turn : (given at : ℕ) (made : List Line) (x : Line) (marks new first : List Bool) → at < length made →
    x ≡ get_or made at x → marks ≡ mark_lines (given + (at + 1)) (drop (at + 1) made) first →
    new ≡ mark_line (given + at) x marks → new ≡ mark_lines (given + at) (drop at made) first
marked_turn given at made x marks new first h e m n =
    n ∙ ap (mark_line (given + at) x) (m ∙ ap (λ p. mark_lines p (drop (at + 1) made) first)
    (let q : given + (at + 1) ≡ given + at + 1 = omega arith in q))
    ∙ sym (turn (λ ls. mark_lines (given + at) ls first) made at x h e)

-- a line that is kept, and one that is not
module _ (numbers : List ℕ) (marks : List Bool) (made : List Line) (place at : ℕ) (x : Line)
    (inside : place < length marks) (here : at < length made) (is : x ≡ get_or made at x) where
  opened : (b : Bool) → get_or marks place false ≡ b →
      kept_lines numbers (drop place marks) (drop at made) ≡ kept_lines numbers (b ∷ drop (place + 1) marks)
      (x ∷ drop (at + 1) made)
  opened b m =
      at_drop_more (λ bs. kept_lines numbers bs (drop at made)) marks place false inside
      ∙ ap (λ (c : Bool). kept_lines numbers (c ∷ drop (place + 1) marks) (drop at made)) m
      ∙ turn (λ ls. kept_lines numbers (b ∷ drop (place + 1) marks) ls) made at x here is

  module _ (next : ℕ) (after : next ≡ place + 1) (out all : List Line)
      (before : out ++ kept_lines numbers (drop place marks) (drop at made) ≡ all) where
    pub kept_turn : get_or marks place false ≡ true → (new : List Line) (line : Line) → new ≡ out ++ line ∷ [] →
        line ≡ renumbered_line numbers x → new ++ kept_lines numbers (drop next marks) (drop (at + 1) made) ≡ all
    kept_turn m new line n e =
        (λ k. (n ∙ ap (λ l. out ++ l ∷ []) e) k ++ kept_lines numbers (drop (after k) marks) (drop (at + 1) made))
        ∙ append_assoc out (renumbered_line numbers x ∷ []) (kept_lines numbers (drop (place + 1) marks)
        (drop (at + 1) made))
        ∙ ap (λ ls. out ++ ls) (sym (opened true m)) ∙ before

    pub left_turn : get_or marks place false ≡ false → out ++ kept_lines numbers (drop next marks)
        (drop (at + 1) made) ≡ all
    left_turn m =
        ap (λ k. out ++ kept_lines numbers (drop k marks) (drop (at + 1) made)) after
        ∙ ap (λ ls. out ++ ls) (sym (opened false m)) ∙ before

-- ---- how many marks
length-mark : (marks : List Bool) (n : ℕ) → length (mark marks n) ≡ length marks
length-mark marks n = length-set marks (n - 1) true

pub length-mark_steps : (steps : List GoalStep) (marks : List Bool) → length (mark_steps steps marks) ≡ length marks
length-mark_steps [] marks = refl
length-mark_steps (g ∷ gs) marks = length-mark_steps gs (mark marks g.j) ∙ length-mark marks g.j

length-mark_line : (place : ℕ) (l : Line) (marks : List Bool) → length (mark_line place l marks) ≡ length marks
length-mark_line place l marks =
    elim (slice_index_or marks place false) as (λ b. length (cond b (mark (mark marks l.i) l.j) marks) ≡ length marks) [
      | true ↦ length-mark (mark marks l.i) l.j ∙ length-mark marks l.i
      | false ↦ refl
    ]

pub length-mark_lines : (place : ℕ) (ls : List Line) (marks : List Bool) → length (mark_lines place ls marks) ≡ length
    marks
length-mark_lines place [] marks = refl
length-mark_lines place (l ∷ ls) marks =
    length-mark_line place l (mark_lines (place + 1) ls marks) ∙ length-mark_lines (place + 1) ls marks

pub length-marks_of : (given : ℕ) (made : List Line) (steps : List GoalStep) → length (marks_of given made steps) ≡
    given + length made
length-marks_of given made steps =
    let first = replicate given true in
    let rest = replicate (length made) false in
    length-mark_lines given made (mark_steps steps (first ++ rest)) ∙ length-mark_steps steps (first ++ rest)
    ∙ length-append first rest ∙ (λ i. length-replicate given true i + length-replicate (length made) false i)

-- ---- powers
pub powers_turn : (g : Polynomial) (r n : ℕ) (out new all : List Remainder) (p : Polynomial) → r < n → p ≡ power_of g
    (r + 1) →
    new ≡ out ++ (record { rest = p; steps = [] }) ∷ [] → out ++ powers g (r + 1) (n - r) ≡ all →
    new ++ powers g (r + 1 + 1) (n - (r + 1)) ≡ all
powers_turn g r n out new all p h e m i =
    let more : n - r ≡ suc (n - (r + 1)) = omega arith in
    ap (λ xs. xs ++ powers g (r + 1 + 1) (n - (r + 1))) (m ∙ ap (λ q. out ++ (record { rest = q; steps = [] }) ∷ []) e)
    ∙ append_assoc out ((record { rest = power_of g (r + 1); steps = [] }) ∷ []) (powers g (r + 1 + 1) (n - (r + 1)))
    ∙ ap (λ k. out ++ powers g (r + 1) k) (sym more) ∙ i

pub outcome_turn : (g : Polynomial) (r n : ℕ) (all o : Outcome) → r < n → power_outcome g (r + 1) ≡ o →
    powers_outcome g (r + 1) (n - r) ≡ all → first_breach o (powers_outcome g (r + 1 + 1) (n - (r + 1))) ≡ all
outcome_turn g r n all o h e i =
    let more : n - r ≡ suc (n - (r + 1)) = omega arith in
    ap (λ (x : Outcome). first_breach x (powers_outcome g (r + 1 + 1) (n - (r + 1)))) (sym e)
    ∙ ap (λ k. powers_outcome g (r + 1) k) (sym more) ∙ i

-- the first power that breaks a rule tells of all
pub told_first : (g : Polynomial) (r n : ℕ) (all : Outcome) (e : Overrun) → r < n → RefusesWith e (power_outcome g (r + 1)) →
    powers_outcome g (r + 1) (n - r) ≡ all → RefusesWith e all
told_first g r n all Range h t i = sym (outcome_turn g r n all Outcome.Range h t i)
told_first g r n all Degree h t i = sym (outcome_turn g r n all Outcome.Degree h t i)
told_first g r n all NoMemory h t i = tt

pub some_line : (made : List Line) {at : ℕ} → at < length made → Line
some_line [] h = absurd (omega arith)
some_line (x ∷ xs) h = x

-- ---- the whole certificate
pub marks_are : (given : ℕ) (made here : List Line) (steps : List GoalStep) (n : ℕ) (first cited all : List Bool) → n
    ≡ length made →
    first ≡ replicate given true ++ replicate n false → cited ≡ mark_steps steps first → here ≡ made →
    all ≡ mark_lines given here cited → all ≡ marks_of given made steps
marks_are given made here steps n first cited all ne fe ce he ae =
    ae ∙ (λ k. mark_lines given (he k) (ce k))
    ∙ (λ k. mark_lines given made (mark_steps steps ((fe ∙ ap (λ m. replicate given true ++ replicate m false) ne) k)))

pub certificate_is : (given : ℕ) (made : List Line) (steps : List GoalStep) (power : ℕ) (marks : List Bool)
    (numbers : List ℕ)
    (lines : List Line) (renumbered : List GoalStep) → marks ≡ marks_of given made steps → numbers ≡ numbers_after 0
    marks →
    lines ≡ kept_lines numbers (drop given marks) made → renumbered ≡ map (renumbered_step numbers) steps →
    record { power = power; lines = lines; steps = renumbered } ≡ certificate_from given made steps power
unfolding certificate_from
certificate_is given made steps power marks numbers lines renumbered me ne le re =
    let news = ne ∙ ap (numbers_after 0) me in
    (λ k. record { power = power; lines = le k; steps = re k })
    ∙ (λ k. record {
      power = power;
      lines = kept_lines (news k) (drop given (me k)) made;
      steps = map (renumbered_step (news k)) steps;
    })
