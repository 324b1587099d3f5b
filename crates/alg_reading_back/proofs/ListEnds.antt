-- The pieces of lists each end where the next begins.
use Rattle.std.proofs.Common.{ℕ, List, [], ◌∷◌, ◌++◌, refl, arith}
use Rattle.std.specs.List.{AllByRecursion}
use Rattle.alg_tokens.specs.Pieces.{Piece}
use Rattle.alg_tokens.proofs.Neighbours.{spell, EachEnds, ends_append}
use Rattle.alg_tokens.proofs.PieceEnds.{BeginsStop}
use Rattle.alg_reading_back.proofs.TermEnds.{Fits, EndsAtStop, opens_more}
use Rattle.alg_reading_back.proofs.WrittenLists.{Written, Separator, star, comma, separator_pieces, later_pieces, list_pieces}

-- pieces that fit, before others that stand and begin with a byte that stops
pub fits_before : (front back : List Piece) (next : List ℕ) → Fits front → BeginsStop (spell back ++ next) →
    EachEnds back next → EachEnds (front ++ back) next
fits_before front back next fits stops stand = ends_append front back next (fits.stand _ stops) stand

-- a separator begins with a byte that stops, and stands before what fits
separator_stops : (s : Separator) (pieces : List Piece) (next : List ℕ) →
    BeginsStop (spell (separator_pieces s ++ pieces) ++ next)
separator_stops star pieces next = (42, _, refl, refl)
separator_stops comma pieces next = (44, _, refl, refl)

separator_ends : (s : Separator) (front back : List Piece) (next : List ℕ) → Fits front →
    EachEnds (front ++ back) next → EachEnds (separator_pieces s ++ (front ++ back)) next
separator_ends star front back next fits stand = ((refl, opens_more front back next fits), stand)
separator_ends comma front back next fits stand = ((refl, λ e. omega (arith, e)), ((32, refl, refl), stand))

module _ {X R : Type 0} (write : X → Written R) (s : Separator) (P : X → Type 0)
    (fits : (x : X) → P x → Fits (write x).pieces) where
  later_stop : (xs : List X) (next : List ℕ) → BeginsStop next → BeginsStop (spell (later_pieces write s xs) ++ next)
  later_stop [] next stops = stops
  later_stop (x ∷ xs) next stops = separator_stops s (list_pieces write s x xs) next

  later_end : (xs : List X) → AllByRecursion P xs → EndsAtStop (later_pieces write s xs)
  later_end [] all next stops = tt
  later_end (x ∷ xs) all next stops =
      separator_ends s (write x).pieces (later_pieces write s xs) next (fits x all.0)
      (fits_before (write x).pieces (later_pieces write s xs) next (fits x all.0) (later_stop xs next stops)
      (later_end xs all.1 next stops))

  -- a first one with those behind it
  pub fits_list : (x : X) (xs : List X) → P x → AllByRecursion P xs → Fits (list_pieces write s x xs)
  fits_list x xs one all = record {
    stand = λ next stops. fits_before (write x).pieces (later_pieces write s xs) next (fits x one)
        (later_stop xs next stops) (later_end xs all next stops);
    opens = λ next. opens_more (write x).pieces (later_pieces write s xs) next (fits x one);
  }
