-- The lines that are marked are those that are cited.
use Rattle.std.specs.Prelude.{◌≡◌, ℕ, zero, suc, ◌+◌, ◌-◌, ◌<◌, ◌≤◌, Bool, true, false, cond, List, [], ◌∷◌, ◌++◌, length, replicate, slice_set}
use Rattle.std.proofs.Common.{get_or, refl, sym, ap, subst, ◌∙◌, ◌⊎◌, inl, inr, arith}
use Rattle.std.proofs.lemmas.List.{length-append, length-replicate}
use Rattle.alg_lines.specs.declared.cert.Line.{Line}
use Rattle.alg_lines.specs.declared.cert.GoalStep.{GoalStep}
use Rattle.alg_groebner.specs.Cited.{IsNumbered, StepsCite, IsCited, by_step, by_line, CiteEarlier, CiteLines}
use Rattle.alg_groebner.specs.Laws.{MarksAreCited}
use Rattle.alg_groebner.specs.Pruning.{mark, mark_steps, mark_lines, marks_of}
use Rattle.alg_groebner.proofs.Kept.{At, IsMarked, Closed, closed, set_here, steps_rise, lines_rise}
use Rattle.alg_groebner.proofs.Pruned.{length-mark_steps, length-mark_lines}

-- ---- what is cited is marked
steps_marked : (total : ℕ) (ss : List GoalStep) (bs : List Bool) (n : ℕ) → total ≡ length bs → CiteLines total ss →
    StepsCite ss n → IsMarked (mark_steps ss bs) n
steps_marked total [] bs n e c h = absurd h
steps_marked total (s ∷ ss) bs n e c (inl same) =
    let low = c.0.0 in
    let high = c.0.1 in
    steps_rise ss (mark bs s.j) (n - 1)
    (subst (λ k. At (mark bs s.j) (k - 1)) same (set_here bs (s.j - 1) (omega arith)))
steps_marked total (s ∷ ss) bs n e c (inr h) =
    steps_marked total ss (mark bs s.j) n
    (e ∙ sym (Rattle.std.proofs.lemmas.List.length-set bs (s.j - 1) true)) c.1 h

closed_at : (bs : List Bool) (p : ℕ) (ls : List Line) (k : ℕ) (l : Line) → Closed bs p ls → IsNumbered p ls k l →
    IsMarked bs k → IsMarked bs l.i × IsMarked bs l.j
closed_at bs p [] k l c h m = absurd h
closed_at bs p (x ∷ ls) k l c (inl (e, same)) m =
    let place : k - 1 ≡ p = omega arith in
    subst (λ (y : Line). IsMarked bs y.i × IsMarked bs y.j) same (c.0 (subst (At bs) place m))
closed_at bs p (x ∷ ls) k l c (inr h) m = closed_at bs (p + 1) ls k l c.1 h m

cited_marked : (given : ℕ) (made : List Line) (steps : List GoalStep) (bs : List Bool) → Closed bs given made →
    ((n : ℕ) → StepsCite steps n → IsMarked bs n) → (n : ℕ) → IsCited given made steps n → IsMarked bs n
cited_marked given made steps bs c first n (by_step h) = first n h
cited_marked given made steps bs c first n (by_line k l h m e) =
    let both = closed_at bs given made k l c m (cited_marked given made steps bs c first k h) in
    elim e as (λ e. IsMarked bs n) [
      | inl same ↦ subst (IsMarked bs) same both.0
      | inr same ↦ subst (IsMarked bs) same both.1
    ]

-- ---- what is marked is cited
none_marked : (m k : ℕ) → At (replicate m false) k → ⊥
none_marked zero k h = absurd (let f : false ≡ true = h in grind arith)
none_marked (suc m) zero h = absurd (let f : false ≡ true = h in grind arith)
none_marked (suc m) (suc k) h = none_marked m k h

first_marked : (given m k : ℕ) → At (replicate given true ++ replicate m false) k → k < given
first_marked zero m k h = absurd (none_marked m k h)
first_marked (suc given) m zero h = omega arith
first_marked (suc given) m (suc k) h = let less = first_marked given m k h in omega arith

set_cases : (bs : List Bool) (i k : ℕ) → At (slice_set bs i true) k → (k ≡ i) ⊎ At bs k
set_cases [] i k h = inr h
set_cases (b ∷ bs) zero zero h = inl refl
set_cases (b ∷ bs) zero (suc k) h = inr h
set_cases (b ∷ bs) (suc i) zero h = inr h
set_cases (b ∷ bs) (suc i) (suc k) h = elim (set_cases bs i k h) [ inl e ↦ inl (ap suc e) | inr a ↦ inr a ]

module _ (given : ℕ) (made : List Line) (steps : List GoalStep) where
  -- a hypothesis, or cited
  abbrev Known : ℕ → Type 0
  Known n = (n ≤ given) ⊎ IsCited given made steps n

  abbrev AllKnown : List Bool → Type 0
  AllKnown bs = (k : ℕ) → At bs k → Known (k + 1)

  mark_known : (bs : List Bool) (n : ℕ) → 1 ≤ n → Known n → AllKnown bs → AllKnown (mark bs n)
  mark_known bs n low known h k a = elim (set_cases bs (n - 1) k a) [
    | inl e ↦ subst Known (let f : n ≡ k + 1 = omega arith in f) known
    | inr b ↦ h k b
  ]

  steps_known : (total : ℕ) (ss : List GoalStep) (bs : List Bool) → CiteLines total ss →
      ((n : ℕ) → StepsCite ss n → Known n) → AllKnown bs → AllKnown (mark_steps ss bs)
  steps_known total [] bs c f h = h
  steps_known total (s ∷ ss) bs c f h =
      steps_known total ss (mark bs s.j) c.1 (λ n m. f n (inr m))
      (mark_known bs s.j c.0.0 (f s.j (inl refl)) h)

  lines_known : (p : ℕ) (ls : List Line) (bs : List Bool) → given ≤ p → CiteEarlier p ls →
      ((k : ℕ) (l : Line) → IsNumbered p ls k l → IsNumbered given made k l) → AllKnown bs →
      AllKnown (mark_lines p ls bs)
  lines_known p [] bs low c f h = h
  lines_known p (l ∷ ls) bs low c f h =
      let v = mark_lines (p + 1) ls bs in
      let rest = lines_known (p + 1) ls bs (omega arith) c.1 (λ k m i. f k m (inr i)) h in
      elim (get_or v p false) as (λ t. get_or v p false ≡ t → AllKnown (cond t (mark (mark v l.i) l.j) v)) [
        | true ↦ λ e.
            let known = cited (rest p e) in
            let here = f (p + 1) l (inl (refl, refl)) in
            mark_known (mark v l.i) l.j c.0.2 (inr (by_line (p + 1) l known here (inr refl)))
            (mark_known v l.i c.0.0 (inr (by_line (p + 1) l known here (inl refl))) rest)
        | false ↦ λ e. rest
      ] refl
    where
      cited : Known (p + 1) → IsCited given made steps (p + 1)
      cited (inl less) = absurd (omega arith)
      cited (inr known) = known

  all_known : CiteEarlier given made → CiteLines (given + length made) steps → AllKnown (marks_of given made steps)
  all_known earlier lines =
      lines_known given made _ (omega arith) earlier (λ k l m. m)
      (steps_known (given + length made) steps _ lines (λ n m. inr (by_step m))
      (λ k a. let less = first_marked given (length made) k a in inl (omega arith)))

pub marks_are_cited : MarksAreCited
marks_are_cited given made steps earlier lines n low high = (
  λ m.
      let there : n - 1 + 1 ≡ n = omega arith in
      cited (subst (Known given made steps) there (all_known given made steps earlier lines (n - 1) m)),
  λ c. cited_marked given made steps (marks_of given made steps) closed_all
      (λ k h. lines_rise given made (mark_steps steps start) (k - 1)
      (steps_marked (given + length made) steps start k (sym size) lines h)) n c,
)
  where
    start : List Bool
    start = replicate given true ++ replicate (length made) false

    size : length (replicate given true ++ replicate (length made) false) ≡ given + length made
    size =
        length-append (replicate given true) (replicate (length made) false)
        ∙ (λ i. length-replicate given true i + length-replicate (length made) false i)

    cited : Known given made steps n → IsCited given made steps n
    cited (inl less) = absurd (omega arith)
    cited (inr known) = known

    closed_all : Closed (marks_of given made steps) given made
    closed_all =
        let marks = mark_steps steps start in
        closed given made marks earlier (let l = length-mark_steps steps start ∙ size in omega arith)
        (λ q ks. length-mark_lines q ks marks)
