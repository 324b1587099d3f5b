-- The file of the first statements of a file, and where the members of the next statement stand.
use Rattle.std.proofs.Common.{◌≡◌, ◌<◌, ◌≤◌, ℕ, zero, suc, ◌+◌, List, [], ◌∷◌, ◌++◌, length, take, refl, sym, ap, ◌∙◌, arith, zero-add}
use Rattle.std.specs.Prelude.{slice_index_or}
use Rattle.std.specs.List.{flat_map}
use Rattle.std.proofs.lemmas.List.{get_or-take, length-take}
use Rattle.std.proofs.lemmas.List.Concat.{flat_map-append}
use Rattle.alg_terms.specs.declared.file.File.{File}
use Rattle.alg_terms.specs.declared.file.Statement.{Statement}
use Rattle.alg_terms.specs.Members.{no_sort, no_hom, no_var, no_hyp, no_goal}
use Rattle.alg_terms.specs.Order.{numbers_from, declared_by, declared_by_all, IsOrdered}
use Rattle.alg_typing.proofs.Growing.{Grows}

-- how many members of each list some statements declare
abbrev pub sorts_in : List Statement → ℕ
sorts_in before = length (declared_by_all before).sorts

abbrev pub homs_in : List Statement → ℕ
homs_in before = length (declared_by_all before).homs

abbrev pub vars_in : List Statement → ℕ
vars_in before = length (declared_by_all before).vars

abbrev pub hyps_in : List Statement → ℕ
hyps_in before = length (declared_by_all before).hyps

abbrev pub goals_in : List Statement → ℕ
goals_in before = length (declared_by_all before).goals

-- the file of the first statements
abbrev pub front : File → List Statement → File
front file before = record {
  sorts = take (sorts_in before) file.sorts;
  homs = take (homs_in before) file.homs;
  vars = take (vars_in before) file.vars;
  hyps = take (hyps_in before) file.hyps;
  goals = take (goals_in before) file.goals;
  order = before;
}

-- where numbers that rise by one are in three pieces, the second begins where the first ends
pub rising_middle : (xs ys zs : List ℕ) (first count : ℕ) → xs ++ (ys ++ zs) ≡ numbers_from first count →
    (ys ≡ numbers_from (first + length xs) (length ys)) × (length xs + length ys ≤ count)
rising_middle [] [] zs first count same = (refl, omega arith)
rising_middle [] (y ∷ ys) zs first zero same = absurd (cc)
rising_middle [] (y ∷ ys) zs first (suc count) same =
    let head : y ≡ first = cc in
    let tail : ys ++ zs ≡ numbers_from (suc first) count = cc in
    let (later, fits) = rising_middle [] ys zs (suc first) count tail in
    let start : suc first + 0 ≡ suc (first + 0) = omega arith in
    let place : first ≡ first + 0 = omega arith in (
      ap (λ k. k ∷ ys) (head ∙ place)
          ∙ ap (λ ks. (first + 0) ∷ ks) (later ∙ ap (λ s. numbers_from s (length ys)) start),
      omega arith,
    )
rising_middle (x ∷ xs) ys zs first zero same = absurd (cc)
rising_middle (x ∷ xs) ys zs first (suc count) same =
    let tail : xs ++ (ys ++ zs) ≡ numbers_from (suc first) count = cc in
    let (later, fits) = rising_middle xs ys zs (suc first) count tail in
    let start : suc first + length xs ≡ first + suc (length xs) = omega arith in
    (later ∙ ap (λ s. numbers_from s (length ys)) start, omega arith)

-- the numbers of one list that a statement declares, behind those of the statements before it
abbrev pub Continues : (Statement → List ℕ) → List Statement → Statement → ℕ → Type 0
Continues f before s count =
    (f s ≡ numbers_from (length (flat_map f before)) (length (f s))) ×
    (length (flat_map f before) + length (f s) ≤ count)

continues : (f : Statement → List ℕ) (order before after : List Statement) (s : Statement) (count : ℕ) →
    order ≡ before ++ (s ∷ after) → flat_map f order ≡ numbers_from 0 count → Continues f before s count
continues f order before after s count split all =
    let pieces : flat_map f before ++ (f s ++ flat_map f after) ≡ numbers_from 0 count =
    sym (flat_map-append f before (s ∷ after)) ∙ ap (flat_map f) (sym split) ∙ all in
    let (here, fits) = rising_middle (flat_map f before) (f s) (flat_map f after) 0 count pieces in
    (here ∙ ap (λ n. numbers_from n (length (f s))) (zero-add (length (flat_map f before))), fits)

-- what the next statement declares follows what those before it declare
pub record IsNext (file : File) (before : List Statement) (s : Statement) : Type 0 where
  pub sorts : Continues (λ s. (declared_by s).sorts) before s (length file.sorts)
  pub homs : Continues (λ s. (declared_by s).homs) before s (length file.homs)
  pub vars : Continues (λ s. (declared_by s).vars) before s (length file.vars)
  pub hyps : Continues (λ s. (declared_by s).hyps) before s (length file.hyps)
  pub goals : Continues (λ s. (declared_by s).goals) before s (length file.goals)

pub next : (file : File) → IsOrdered file → (before after : List Statement) (s : Statement) →
    file.order ≡ before ++ (s ∷ after) → IsNext file before s
next file ordered before after s split =
    let all = ordered.once_rising in
    record {
      sorts = continues (λ s. (declared_by s).sorts) file.order before after s (length file.sorts) split
          (ap (λ m. m.sorts) all);
      homs = continues (λ s. (declared_by s).homs) file.order before after s (length file.homs) split
          (ap (λ m. m.homs) all);
      vars = continues (λ s. (declared_by s).vars) file.order before after s (length file.vars) split
          (ap (λ m. m.vars) all);
      hyps = continues (λ s. (declared_by s).hyps) file.order before after s (length file.hyps) split
          (ap (λ m. m.hyps) all);
      goals = continues (λ s. (declared_by s).goals) file.order before after s (length file.goals) split
          (ap (λ m. m.goals) all);
    }

-- a list's first items are those of the list
front_grows : {X : Type 0} (xs : List X) (n k : ℕ) (d : X) → k < length (take n xs) →
    slice_index_or xs k d ≡ slice_index_or (take n xs) k d
front_grows xs n k d low = sym (get_or-take n xs k d (omega (arith, length-take n xs)))

-- the file has the members of its front, at the same numbers
pub grows : (file : File) (before : List Statement) → Grows (front file before) file
grows file before = record {
  sorts = λ s low. front_grows file.sorts (sorts_in before) s no_sort low;
  homs = λ f low. front_grows file.homs (homs_in before) f no_hom low;
  vars = λ k low. front_grows file.vars (vars_in before) k no_var low;
  hyps = λ h low. front_grows file.hyps (hyps_in before) h no_hyp low;
  goals = λ i low. front_grows file.goals (goals_in before) i no_goal low;
  more_sorts = omega (arith, length-take (sorts_in before) file.sorts);
  more_homs = omega (arith, length-take (homs_in before) file.homs);
  more_vars = omega (arith, length-take (vars_in before) file.vars);
  more_hyps = omega (arith, length-take (hyps_in before) file.hyps);
}
