-- Lists whose last member is changed.
use Rattle.std.proofs.Common.{◌≡◌, ◌+◌, ℕ, List, [], ◌∷◌, ◌++◌, length, length-append, refl, ap, arith}
use Rattle.std.specs.Prelude.{sum_by}
use Rattle.std.proofs.lemmas.List.Sums.{sum_by-append}
use Rattle.alg_annotated.specs.Resolved.{with_last}

-- a list is empty, or has a last member
pub data Ending {X : Type 0} : List X → Type 0 where
  empty : Ending []
  last : (front : List X) (x : X) → Ending (front ++ x ∷ [])

more_before : {X : Type 0} (y : X) (xs : List X) → Ending xs → Ending (y ∷ xs)
more_before y xs empty = last [] y
more_before y xs (last front x) = last (y ∷ front) x

pub ending : {X : Type 0} (xs : List X) → Ending xs
ending [] = empty
ending (x ∷ xs) = more_before x xs (ending xs)

module _ {X : Type 0} (change : X → X) where
  pub with_last-append : (xs : List X) (x : X) → with_last change (xs ++ x ∷ []) ≡ xs ++ change x ∷ []
  with_last-append [] x = refl
  with_last-append (y ∷ []) x = refl
  with_last-append (y ∷ z ∷ xs) x = ap (λ ys. y ∷ ys) (with_last-append (z ∷ xs) x)

-- the number of members of a list with one more
pub one_longer : {X : Type 0} (xs : List X) (x : X) → length (xs ++ x ∷ []) ≡ length xs + 1
one_longer xs x = length-append xs (x ∷ [])

-- the sum over a list with one more member
pub sum_with : {X : Type 0} (f : X → ℕ) (xs : List X) (x : X) → sum_by f (xs ++ x ∷ []) ≡ sum_by f xs + f x
sum_with f xs x = let sum = sum_by-append f xs (x ∷ []) in omega (arith, sum)
