-- Things in pieces, with what each says by the place where it begins, and lists of these behind a separator.
use Rattle.std.specs.Prelude.{ℕ, ◌+◌, List, [], ◌∷◌, ◌++◌, codes}
use Rattle.alg_tokens.specs.declared.token.Sign.{Sign}
use Rattle.alg_tokens.specs.declared.token.Sign.TheVariants as signs
use Rattle.alg_tokens.specs.Laws.{width}
use Rattle.alg_tokens.specs.Pieces.{Piece}
use Rattle.alg_reading_back.proofs.WrittenTerms.{space, sign}

-- something in pieces, and what it says by the place where they begin
pub record Written (R : Type 0) : Type 0 where
  pub pieces : List Piece
  pub raw : ℕ → R

-- what stands between two of a list: `*`, or `,` and a space
pub data Separator : Type 0 where
  star : Separator
  comma : Separator

abbrev pub separator_sign : Separator → Sign
separator_sign star = signs.Star
separator_sign comma = signs.Comma

abbrev pub separator_pieces : Separator → List Piece
separator_pieces star = sign signs.Star ∷ []
separator_pieces comma = sign signs.Comma ∷ space ∷ []

abbrev pub separator_text : Separator → List ℕ
separator_text star = codes "*"
separator_text comma = codes ", "

module _ {X R : Type 0} (write : X → Written R) (s : Separator) where
  -- those behind a first one, each behind the separator
  abbrev pub later_pieces : List X → List Piece
  later_pieces [] = []
  later_pieces (x ∷ xs) = separator_pieces s ++ ((write x).pieces ++ later_pieces xs)

  -- a first one with those behind it
  abbrev pub list_pieces : X → List X → List Piece
  list_pieces x xs = (write x).pieces ++ later_pieces xs

  -- what several say, where the first begins at a place
  abbrev pub all_raw : ℕ → List X → List R
  all_raw at [] = []
  all_raw at (x ∷ xs) = (write x).raw at ∷ all_raw (at + width (write x).pieces + width (separator_pieces s)) xs
