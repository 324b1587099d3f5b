-- What the raw things of a list are, one for each of the list.
use Rattle.std.proofs.Common.{◌≡◌, ℕ, ◌+◌, List, [], ◌∷◌, map, flat_map, refl, ap, ◌∙◌}
use Rattle.std.specs.List.{AllByRecursion}
use Rattle.alg_tokens.specs.Laws.{width}
use Rattle.alg_reading_back.proofs.NamesTaken.{two_empty}
use Rattle.alg_reading_back.proofs.PiecesAt.{PiecesAt, pieces_at_left, pieces_at_right}
use Rattle.alg_reading_back.proofs.WrittenLists.{Written, Separator, separator_pieces, later_pieces, list_pieces, all_raw}

-- one raw thing for each of a list, and Q holds of both
abbrev pub AreOf : {X R : Type 0} → (X → R → Type 0) → List X → List R → Type 0
AreOf Q [] [] = Unit {0}
AreOf Q [] (r ∷ rs) = ⊥
AreOf Q (x ∷ xs) [] = ⊥
AreOf Q (x ∷ xs) (r ∷ rs) = Q x r × AreOf Q xs rs

-- what they come to is the list
pub of_same : {X R : Type 0} (f : R → X) (xs : List X) (rs : List R) → AreOf (λ x r. f r ≡ x) xs rs → map f rs ≡ xs
of_same f [] [] are = refl
of_same f [] (r ∷ rs) are = absurd are
of_same f (x ∷ xs) [] are = absurd are
of_same f (x ∷ xs) (r ∷ rs) (is, are) = ap (λ y. y ∷ map f rs) is ∙ ap (λ ys. x ∷ ys) (of_same f xs rs are)

-- their faults are none
pub of_none : {X R Y : Type 0} (f : R → List Y) (xs : List X) (rs : List R) → AreOf (λ x r. f r ≡ []) xs rs →
    flat_map f rs ≡ []
of_none f [] [] are = refl
of_none f [] (r ∷ rs) are = absurd are
of_none f (x ∷ xs) [] are = absurd are
of_none f (x ∷ xs) (r ∷ rs) (is, are) = two_empty (f r) (flat_map f rs) is (of_none f xs rs are)

-- what follows of each
pub of_weaker : {X R : Type 0} (P Q : X → R → Type 0) → ((x : X) (r : R) → P x r → Q x r) → (xs : List X)
    (rs : List R) →
    AreOf P xs rs → AreOf Q xs rs
of_weaker P Q f [] [] are = tt
of_weaker P Q f [] (r ∷ rs) are = absurd are
of_weaker P Q f (x ∷ xs) [] are = absurd are
of_weaker P Q f (x ∷ xs) (r ∷ rs) (is, are) = (f x r is, of_weaker P Q f xs rs are)

-- where the pieces of each stand, the raw things of the list are so
module _ {X R : Type 0} (write : X → Written R) (s : Separator) (text : List ℕ) (P : X → Type 0) (Q : X → R → Type 0)
    (back : (x : X) (at : ℕ) → P x → PiecesAt text at (write x).pieces → Q x ((write x).raw at)) where
  later_back : (xs : List X) (at : ℕ) → AllByRecursion P xs → PiecesAt text at (later_pieces write s xs) →
      AreOf Q xs (all_raw write s (at + width (separator_pieces s)) xs)
  later_back [] at all placed = tt
  later_back (x ∷ xs) at all placed =
      let first = at + width (separator_pieces s) in
      let here = pieces_at_right text at (separator_pieces s) (list_pieces write s x xs) placed in (
        back x first all.0 (pieces_at_left text first (write x).pieces (later_pieces write s xs) here),
        later_back xs (first + width (write x).pieces) all.1
            (pieces_at_right text first (write x).pieces (later_pieces write s xs) here),
      )

  pub list_back : (x : X) (xs : List X) (at : ℕ) → P x → AllByRecursion P xs →
      PiecesAt text at (list_pieces write s x xs) → AreOf Q (x ∷ xs) (all_raw write s at (x ∷ xs))
  list_back x xs at one all placed = (
    back x at one (pieces_at_left text at (write x).pieces (later_pieces write s xs) placed),
    later_back xs (at + width (write x).pieces) all
        (pieces_at_right text at (write x).pieces (later_pieces write s xs) placed),
  )
