-- A certificate stays good where the lines that are not cited are left out.
use Rattle.std.specs.Prelude.{◌≡◌, ℕ, zero, suc, ◌+◌, ◌-◌, ◌<◌, ◌≤◌, Bool, true, false, cond, List, [], ◌∷◌, ◌++◌, map, drop, length, slice_set}
use Rattle.std.proofs.Common.{get_or, refl, sym, ap, subst, ◌∙◌, arith}
use Rattle.std.proofs.lemmas.List.{at_drop_more, get_or-set_other, length-append}
use Rattle.alg_mono.specs.Outcomes.{combine_outcome}
use Rattle.alg_mono.specs.NumberedPolynomials.{Polynomial}
use Rattle.alg_lines.specs.Lines.{line_at, combination, line_combination, IsLineOf}
use Rattle.alg_poly.specs.Divisors.{IsDivisible}
use Rattle.alg_lines.specs.Accepting.{IsOneOf, IsGoodLine, AreLines, AreSteps}
use Rattle.alg_lines.specs.declared.cert.Line.{Line}
use Rattle.alg_lines.specs.declared.cert.GoalStep.{GoalStep}
use Rattle.alg_groebner.specs.Cited.{CiteEarlier}
use Rattle.alg_groebner.specs.Pruning.{mark, mark_steps, mark_line, mark_lines, numbers_after, number_of, renumbered_line, renumbered_step, kept_lines}

no : false ≡ true → ⊥
no e = grind arith

abbrev pub At : List Bool → ℕ → Type 0
At bs k = get_or bs k false ≡ true

abbrev pub IsMarked : List Bool → ℕ → Type 0
IsMarked bs n = At bs (n - 1)

-- the items that are marked
abbrev pub keep : {X : Type 0} → List Bool → List X → List X
keep [] xs = []
keep (b ∷ bs) [] = []
keep (true ∷ bs) (x ∷ xs) = x ∷ keep bs xs
keep (false ∷ bs) (x ∷ xs) = keep bs xs

pub record IsFound {X : Type 0} (bs : List Bool) (xs : List X) (p last : ℕ) (d : X) : Type 0 where
  pub place : ℕ
  pub number : get_or (numbers_after last bs) p 0 ≡ last + 1 + place
  pub same : get_or (keep bs xs) place d ≡ get_or xs p d
  pub inside : place < length (keep bs xs)

look_up : {X : Type 0} (bs : List Bool) (xs : List X) (p last : ℕ) (d : X) → p < length xs → At bs p → IsFound bs xs p
    last d
look_up [] xs p last d h m = absurd (no m)
look_up (b ∷ bs) [] p last d h m = absurd (omega arith)
look_up (true ∷ bs) (x ∷ xs) zero last d h m = record {
  place = 0;
  number = omega arith;
  same = refl;
  inside = omega
      arith;
}
look_up (false ∷ bs) (x ∷ xs) zero last d h m = absurd (no m)
look_up (true ∷ bs) (x ∷ xs) (suc p) last d h m =
    let r = look_up bs xs p (last + 1) d (omega arith) m in
    let n = r.number in
    let i = r.inside in
    record { place = suc r.place; number = omega arith; same = r.same; inside = omega arith }
look_up (false ∷ bs) (x ∷ xs) (suc p) last d h m =
    let r = look_up bs xs p last d (omega arith) m in
    record { place = r.place; number = r.number; same = r.same; inside = r.inside }

-- a marked line under its new number
renumber : (bs : List Bool) (lines : List Polynomial) (n : ℕ) → IsOneOf lines n → IsMarked bs n →
    IsOneOf (keep bs lines) (number_of (numbers_after 0 bs) n)
    × (line_at (keep bs lines) (number_of (numbers_after 0 bs) n) ≡ line_at lines n)
renumber bs lines zero o m = absurd (let low = o.0 in omega arith)
renumber bs lines (suc k) o m =
    let less : suc k - 1 ≡ k = omega arith in
    let high = o.1 in
    let r = look_up bs lines k 0 [] (omega arith) (subst (At bs) less m) in
    let at : number_of (numbers_after 0 bs) (suc k) ≡ suc r.place =
    ap (λ i. get_or (numbers_after 0 bs) i 0) less ∙ (let n = r.number in let e : get_or (numbers_after 0 bs) k 0 ≡
    suc r.place = omega arith in e) in
    let inside = r.inside in
    subst (λ n. IsOneOf (keep bs lines) n × (line_at (keep bs lines) n ≡ line_at lines (suc k))) (sym at)
    ((omega arith, omega arith), r.same)

-- ---- lines
keep_nothing : {X : Type 0} (bs : List Bool) → keep {X = X} bs [] ≡ []
keep_nothing [] = refl
keep_nothing (b ∷ bs) = refl

keep_last : {X : Type 0} (bs : List Bool) (xs : List X) (x : X) (b : Bool) → length xs < length bs → get_or bs
    (length xs) false ≡ b →
    keep bs (xs ++ x ∷ []) ≡ keep bs xs ++ cond b (x ∷ []) []
keep_last [] xs x b h e = absurd (omega arith)
keep_last (true ∷ bs) [] x b h e = ap (λ zs. x ∷ zs) (keep_nothing bs) ∙ ap (λ c. cond c (x ∷ []) []) e
keep_last (false ∷ bs) [] x b h e = keep_nothing bs ∙ ap (λ c. cond c (x ∷ []) []) e
keep_last (true ∷ bs) (y ∷ xs) x b h e = ap (λ zs. y ∷ zs) (keep_last bs xs x b (omega arith) e)
keep_last (false ∷ bs) (y ∷ xs) x b h e = keep_last bs xs x b (omega arith) e

-- what a marked line cites is marked; the first of the list has the place p
abbrev pub Closed : List Bool → ℕ → List Line → Type 0
Closed bs p [] = Unit {0}
Closed bs p (l ∷ ls) = (At bs p → IsMarked bs l.i × IsMarked bs l.j) × Closed bs (p + 1) ls

good_kept : (bs : List Bool) (lines : List Polynomial) (l : Line) (new : Polynomial) →
    IsGoodLine lines l × IsLineOf lines l new → IsMarked bs l.i → IsMarked bs l.j →
    let k = renumbered_line (numbers_after 0 bs) l in
    IsGoodLine (keep bs lines) k × IsLineOf (keep bs lines) k new
good_kept bs lines l new (g, (polynomial, made)) a b =
    let i = renumber bs lines l.i g.first a in
    let j = renumber bs lines l.j g.second b in
    let same : combination l.a l.m (line_at lines l.i) l.b l.n (line_at lines l.j)
    ≡ line_combination (keep bs lines) (renumbered_line (numbers_after 0 bs) l) =
    (λ k. combination l.a l.m (sym i.1 k) l.b l.n (sym j.1 k)) in (
      record {
        first = i.0;
        second = j.0;
        fine = (λ k. combine_outcome l.a l.m (i.1 k) l.b l.n (j.1 k)) ∙ g.fine;
        exact = subst (IsDivisible l.d) same g.exact;
      },
      (polynomial, made ∙ same),
    )

pub lines_kept : (bs : List Bool) (lines : List Polynomial) (p : ℕ) (ls : List Line) (all : List Polynomial) → p ≡
    length lines →
    p + length ls ≤ length bs → AreLines lines ls all → Closed bs p ls →
    AreLines (keep bs lines) (kept_lines (numbers_after 0 bs) (drop p bs) ls) (keep bs all)
lines_kept bs lines p [] all e h a c = ap (keep bs) a
lines_kept bs lines p (l ∷ ls) all e h a c =
    let numbers = numbers_after 0 bs in
    let longer = length-append lines (a.0 ∷ []) in
    let next : p + 1 ≡ length (lines ++ a.0 ∷ []) = omega arith in
    let rest = lines_kept bs (lines ++ a.0 ∷ []) (p + 1) ls all next (omega arith) a.2 c.1 in
    let opened : kept_lines numbers (drop p bs) (l ∷ ls) ≡ kept_lines numbers (get_or bs p false ∷ drop (p + 1) bs)
    (l ∷ ls) =
    at_drop_more (λ cs. kept_lines numbers cs (l ∷ ls)) bs p false (omega arith) in
    let last = λ (b : Bool) (m : get_or bs p false ≡ b). keep_last bs lines a.0 b (omega arith)
    (ap (λ k. get_or bs k false) (sym e) ∙ m) in
    subst (λ (ks : List Line). AreLines (keep bs lines) ks (keep bs all)) (sym opened)
    (elim (get_or bs p false) as (λ b. get_or bs p false ≡ b → AreLines (keep bs lines)
    (kept_lines numbers (b ∷ drop (p + 1) bs) (l ∷ ls)) (keep bs all)) [
      | true ↦ λ m. (
        a.0,
        good_kept bs lines l a.0 a.1 ((c.0 m).0) ((c.0 m).1),
        subst (λ (xs : List Polynomial). AreLines xs (kept_lines numbers (drop (p + 1) bs) ls) (keep bs all))
            (last true m) rest,
      )
      | false ↦ λ m. subst (λ (xs : List Polynomial). AreLines xs (kept_lines numbers (drop (p + 1) bs) ls)
          (keep bs all))
          (last false m ∙ Rattle.std.proofs.lemmas.List.append-nil (keep bs lines)) rest
    ] refl)

-- ---- steps
abbrev pub AllCited : List Bool → List GoalStep → Type 0
AllCited bs [] = Unit {0}
AllCited bs (s ∷ ss) = IsMarked bs s.j × AllCited bs ss

pub steps_kept : (bs : List Bool) (all : List Polynomial) (g : Polynomial) (ss : List GoalStep) (h : Polynomial) →
    AreSteps all g ss h →
    AllCited bs ss → AreSteps (keep bs all) g (map (renumbered_step (numbers_after 0 bs)) ss) h
steps_kept bs all g [] h a c = a
steps_kept bs all g (s ∷ ss) h a c =
    let good = a.1.0 in
    let j = renumber bs all s.j good.line c.0 in
    let same = ap (λ (q : Polynomial). combination s.a [] g s.b s.n q) (sym j.1) in (
      a.0,
      (
        record {
          line = j.0;
          factor = good.factor;
          fine = ap (λ (q : Polynomial). combine_outcome s.a [] g s.b s.n q) j.1 ∙ good.fine;
          exact = subst (IsDivisible s.d) same good.exact;
        },
        (a.1.1.0, a.1.1.1 ∙ same),
      ),
      steps_kept bs all a.0 ss h a.2 c.1,
    )

-- ---- the marks
set_rises : (bs : List Bool) (i k : ℕ) → At bs k → At (slice_set bs i true) k
set_rises [] i k h = absurd (no h)
set_rises (b ∷ bs) zero zero h = refl
set_rises (b ∷ bs) zero (suc k) h = h
set_rises (b ∷ bs) (suc i) zero h = h
set_rises (b ∷ bs) (suc i) (suc k) h = set_rises bs i k h

pub set_here : (bs : List Bool) (i : ℕ) → i < length bs → At (slice_set bs i true) i
set_here [] i h = absurd (omega arith)
set_here (b ∷ bs) zero h = refl
set_here (b ∷ bs) (suc i) h = set_here bs i (omega arith)

line_rises : (p : ℕ) (l : Line) (bs : List Bool) (k : ℕ) → At bs k → At (mark_line p l bs) k
line_rises p l bs k h =
    elim (get_or bs p false) as (λ b. At (cond b (mark (mark bs l.i) l.j) bs) k) [
      | true ↦ set_rises (mark bs l.i) (l.j - 1) k (set_rises bs (l.i - 1) k h)
      | false ↦ h
    ]

pub lines_rise : (p : ℕ) (ls : List Line) (bs : List Bool) (k : ℕ) → At bs k → At (mark_lines p ls bs) k
lines_rise p [] bs k h = h
lines_rise p (l ∷ ls) bs k h = line_rises p l (mark_lines (p + 1) ls bs) k (lines_rise (p + 1) ls bs k h)

pub steps_rise : (ss : List GoalStep) (bs : List Bool) (k : ℕ) → At bs k → At (mark_steps ss bs) k
steps_rise [] bs k h = h
steps_rise (s ∷ ss) bs k h = steps_rise ss (mark bs s.j) k (set_rises bs (s.j - 1) k h)

-- each line cites lesser numbers
pub bounded : (lines : List Polynomial) (p : ℕ) (ls : List Line) (all : List Polynomial) → p ≡ length lines → AreLines
    lines ls all → CiteEarlier p ls
bounded lines p [] all e a = tt
bounded lines p (l ∷ ls) all e a =
    let i = a.1.0.first in
    let j = a.1.0.second in
    let i_high = i.1 in
    let j_high = j.1 in
    let longer = length-append lines (a.0 ∷ []) in
    ((i.0, omega arith, j.0, omega arith), bounded (lines ++ a.0 ∷ []) (p + 1) ls all (omega arith) a.2)

closed_more : (v bs : List Bool) (p q : ℕ) (ls : List Line) → p ≤ q → ((k : ℕ) → p ≤ k → At bs k → At v k) →
    ((k : ℕ) → At v k → At bs k) →
    Closed v q ls → Closed bs q ls
closed_more v bs p q [] h f g c = tt
closed_more v bs p q (l ∷ ls) h f g c = (
  λ m. let both = c.0 (f q h m) in (g (l.i - 1) both.0, g (l.j - 1) both.1),
  closed_more v bs p (q + 1) ls (omega arith) f g c.1,
)

pub closed : (p : ℕ) (ls : List Line) (marks : List Bool) → CiteEarlier p ls → p + length ls ≤ length marks →
    ((q : ℕ) (ks : List Line) → length (mark_lines q ks marks) ≡ length marks) → Closed (mark_lines p ls marks) p ls
closed p [] marks b h len = tt
closed p (l ∷ ls) marks b h len =
    let v = mark_lines (p + 1) ls marks in
    let rest = closed (p + 1) ls marks b.1 (omega arith) len in
    let size = len (p + 1) ls in
    let i_low = b.0.0 in
    let i_high = b.0.1 in
    let j_low = b.0.2 in
    let j_high = b.0.3 in
    let w = mark v l.i in
    let marked : At (mark w l.j) (l.i - 1) × At (mark w l.j) (l.j - 1) = (
      set_rises w (l.j - 1) (l.i - 1) (set_here v (l.i - 1) (omega arith)),
      set_here w (l.j - 1) (omega (arith, Rattle.std.proofs.lemmas.List.length-set v (l.i - 1) true)),
    ) in
    let beyond = λ (k : ℕ) (o : p ≤ k). get_or-set_other w (l.j - 1) k true false (omega arith) ∙ get_or-set_other v
    (l.i - 1) k true false (omega arith) in
    elim (get_or v p false) as (λ t. get_or v p false ≡ t → Closed (cond t (mark w l.j) v) p (l ∷ ls)) [
      | true ↦ λ e. (
        λ m. marked,
        closed_more v (mark w l.j) p (p + 1) ls (omega arith) (λ k o m. sym (beyond k o) ∙ m)
            (λ k m. set_rises w (l.j - 1) k (set_rises v (l.i - 1) k m)) rest,
      )
      | false ↦ λ e. (λ m. absurd (no (sym e ∙ m)), rest)
    ] refl
