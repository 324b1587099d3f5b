-- The lists of a front of a file and those of the next front.
use Rattle.std.proofs.Common.{◌≡◌, ◌<◌, ℕ, ◌+◌, List, [], ◌∷◌, ◌++◌, length, take, sym, ap, ◌∙◌, subst, arith}
use Rattle.std.specs.Prelude.{slice_index_or}
use Rattle.std.specs.List.{flat_map}
use Rattle.alg_terms.specs.declared.file.File.{File}
use Rattle.alg_terms.specs.declared.file.Statement.{Statement}
use Rattle.alg_terms.specs.Order.{numbers_from}
use Rattle.alg_reading_back.proofs.Fronts.{Continues}
use Rattle.alg_reading_back.proofs.Steps.{count_with, take_none, take_one, length_of_take}

-- files with the same lists are one
pub same_lists : (f g : File) → f.sorts ≡ g.sorts → f.homs ≡ g.homs → f.vars ≡ g.vars → f.hyps ≡ g.hyps →
    f.goals ≡ g.goals → f.order ≡ g.order → f ≡ g
same_lists f g sorts homs vars hyps goals order =
    ap (λ l. record f { sorts = l }) sorts ∙ ap (λ l. record f { sorts = g.sorts; homs = l }) homs
    ∙ ap (λ l. record f { sorts = g.sorts; homs = g.homs; vars = l }) vars
    ∙ ap (λ l. record g { hyps = l; goals = f.goals; order = f.order }) hyps
    ∙ ap (λ l. record g { goals = l; order = f.order }) goals ∙ ap (λ l. record g { order = l }) order

-- a list that a statement adds nothing to
pub same_list : {X : Type 0} (f : Statement → List ℕ) (xs : List X) (before : List Statement) (s : Statement) →
    length (f s) ≡ 0 → take (length (flat_map f before)) xs ≡ take (length (flat_map f (before ++ s ∷ []))) xs
same_list f xs before s nothing =
    let count = length (flat_map f before) in
    let more = count_with f before s ∙ ap (λ n. count + n) nothing in
    sym (take_none xs count (length (flat_map f (before ++ s ∷ []))) more)

pub first_same : (x y : ℕ) (xs ys : List ℕ) → x ∷ xs ≡ y ∷ ys → x ≡ y
first_same x y xs ys h = cc

-- number k is the next item of a list behind those of the front, and the last of those of the next front
pub record IsNextItem (X : Type 0) (xs : List X) (d : X) (front next k : ℕ) : Type 0 where
  pub here : k ≡ front
  pub low : k < length xs
  pub items : take front xs ++ slice_index_or xs k d ∷ [] ≡ take next xs
  pub counted : length (take front xs) ≡ k

-- a list that a statement adds one item to
pub next_item : {X : Type 0} (f : Statement → List ℕ) (xs : List X) (d : X) (before : List Statement) (s : Statement)
    (k : ℕ) → Continues f before s (length xs) → f s ≡ k ∷ [] →
    IsNextItem X xs d (length (flat_map f before)) (length (flat_map f (before ++ s ∷ []))) k
next_item f xs d before s k (rising, fits) same =
    let count = length (flat_map f before) in
    let one : length (f s) ≡ 1 = ap length same in
    let here : k ≡ count = first_same k count [] [] (subst (λ ks. ks ≡ numbers_from count (length ks)) same rising) in
    let low : count < length xs = omega (arith, fits, one) in
    let more = count_with f before s ∙ ap (λ n. count + n) one in
    record {
      here = here;
      low = omega (arith, low, here);
      items = ap (λ i. take count xs ++ slice_index_or xs i d ∷ []) here
          ∙ sym (take_one xs count (length (flat_map f (before ++ s ∷ []))) d low more);
      counted = length_of_take xs count (omega (arith, low)) ∙ sym here;
    }
