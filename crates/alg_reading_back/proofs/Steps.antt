-- Counts of members in the fronts of a file.
use Rattle.std.proofs.Common.{◌≡◌, ◌<◌, ◌≤◌, ℕ, ◌+◌, List, [], ◌∷◌, ◌++◌, length, take, sym, ap, ◌∙◌, subst, arith, zero-add, append-nil, length-append}
use Rattle.std.specs.Prelude.{All, Contains, slice_index_or}
use Rattle.std.specs.List.{flat_map}
use Rattle.std.proofs.lemmas.List.{length-take, take_more}
use Rattle.std.proofs.lemmas.List.Concat.{flat_map-append}
use Rattle.std.proofs.lemmas.List.Elements.{All-contains}
use Rattle.alg_terms.specs.declared.file.Statement.{Statement}
use Rattle.alg_terms.specs.Order.{numbers_from}
use Rattle.alg_typing.proofs.Ordering.{numbers_below}
use Rattle.alg_reading_back.proofs.Fronts.{rising_middle}

-- one more statement's members are behind those before
pub count_with : (f : Statement → List ℕ) (before : List Statement) (s : Statement) →
    length (flat_map f (before ++ s ∷ [])) ≡ length (flat_map f before) + length (f s)
count_with f before s =
    ap length (flat_map-append f before (s ∷ []) ∙ ap (λ xs. flat_map f before ++ xs) (append-nil (f s)))
    ∙ length-append (flat_map f before) (f s)

-- a number among those below a count is below it
pub among_low : (n k : ℕ) → Contains (numbers_from 0 n) k → k < n
among_low n k h =
    let low = subst (λ end. All (λ k. k < end) (numbers_from 0 n)) (zero-add n) (numbers_below 0 n) in
    All-contains (λ k. k < n) (numbers_from 0 n) k low h

-- the numbers of one list that some first statements declare
pub rises : (f : Statement → List ℕ) (order before after : List Statement) (count : ℕ) → order ≡ before ++ after →
    flat_map f order ≡ numbers_from 0 count → flat_map f before ≡ numbers_from 0 (length (flat_map f before))
rises f order before after count split all =
    let pieces : [] ++ (flat_map f before ++ flat_map f after) ≡ numbers_from 0 count =
    sym (flat_map-append f before after) ∙ ap (flat_map f) (sym split) ∙ all in
    (rising_middle [] (flat_map f before) (flat_map f after) 0 count pieces).0

-- nothing more of a list is declared
pub take_none : {X : Type 0} (xs : List X) (n m : ℕ) → m ≡ n + 0 → take m xs ≡ take n xs
take_none xs n m same = ap (λ k. take k xs) (same ∙ omega arith)

-- one more item
pub take_one : {X : Type 0} (xs : List X) (n m : ℕ) (d : X) → n < length xs → m ≡ n + 1 →
    take m xs ≡ take n xs ++ slice_index_or xs n d ∷ []
take_one xs n m d low same = ap (λ k. take k xs) same ∙ take_more xs n d low

-- as many items as are taken
pub length_of_take : {X : Type 0} (xs : List X) (n : ℕ) → n ≤ length xs → length (take n xs) ≡ n
length_of_take xs n low = omega (arith, length-take n xs)
