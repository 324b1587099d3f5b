-- Pieces that each end where the next begins: what they spell is cut into them, and the tokens among them.
use Rattle.std.proofs.Common.{◌≡◌, ℕ, ◌+◌, List, [], ◌∷◌, ◌++◌, flat_map, length, take, drop, refl, ap, sym, ◌∙◌, subst, arith, append_assoc, length-append}
use Rattle.std.proofs.lemmas.Grind.{flat_map-append}
use Rattle.std.proofs.Math.Seq.{take-append_seam, drop-append_seam}
use Rattle.alg_tokens.specs.declared.token.TokenKind.{TokenKind}
use Rattle.alg_tokens.specs.declared.token.TokenKind.TheVariants as kinds
use Rattle.alg_tokens.specs.Next.{IsWithinMax}
use Rattle.alg_tokens.specs.Pieces.{Piece, Blank, Lexeme, bytes_of, IsCut}
use Rattle.alg_tokens.specs.Laws.{width, tokens_of, AllWithinMax}
use Rattle.alg_tokens.proofs.PieceEnds.{EndsBefore, first_if_ends}

-- the bytes of pieces
abbrev pub spell : List Piece → List ℕ
spell pieces = flat_map bytes_of pieces

pub spell_append : (front back : List Piece) → spell (front ++ back) ≡ spell front ++ spell back
spell_append front back = flat_map-append bytes_of front back

-- pieces are as wide as what they spell
pub spelled_width : (pieces : List Piece) → length (spell pieces) ≡ width pieces
spelled_width [] = refl
spelled_width (piece ∷ pieces) =
    length-append (bytes_of piece) (spell pieces) ∙ ap (λ n. length (bytes_of piece) + n) (spelled_width pieces)

pub width_append : (front back : List Piece) → width (front ++ back) ≡ width front + width back
width_append [] back = omega arith
width_append (piece ∷ front) back = let rest = width_append front back in omega arith

-- each piece ends where those behind it begin, and the last one where the text that follows begins
abbrev pub EachEnds : List Piece → List ℕ → Type 0
EachEnds [] rest = Unit {0}
EachEnds (piece ∷ pieces) rest = EndsBefore piece (spell pieces ++ rest) × EachEnds pieces rest

pub ends_append : (front back : List Piece) (rest : List ℕ) → EachEnds front (spell back ++ rest) →
    EachEnds back rest → EachEnds (front ++ back) rest
ends_append [] back rest one other = other
ends_append (piece ∷ front) back rest (stands, one) other =
    let same : spell front ++ (spell back ++ rest) ≡ spell (front ++ back) ++ rest =
    sym (append_assoc (spell front) (spell back) rest) ∙ ap (λ bs. bs ++ rest) (sym (spell_append front back)) in
    (subst (EndsBefore piece) same stands, ends_append front back rest one other)

-- what such pieces spell is cut into them
pub cut_if_ends : (pieces : List Piece) (rest : List ℕ) → EachEnds pieces rest →
    IsCut pieces (spell pieces ++ rest) rest
cut_if_ends [] rest stand = refl
cut_if_ends (piece ∷ pieces) rest (stands, stand) =
    let P : List ℕ → Type 0 = λ bs. IsCut (piece ∷ pieces) bs rest in
    subst P (sym (append_assoc (bytes_of piece) (spell pieces) rest))
    (spell pieces ++ rest, first_if_ends piece (spell pieces ++ rest) stands, cut_if_ends pieces rest stand)

-- a numeral that ends somewhere is at most the greatest literal
within_max : (kind : TokenKind) (bytes next : List ℕ) → EndsBefore (Lexeme kind bytes) next → IsWithinMax kind
within_max kinds.Name bytes next stands = tt
within_max (kinds.Word word) bytes next stands = tt
within_max (kinds.Number value) bytes next (is, same, small, stops) = small
within_max (kinds.Sign sign) bytes next stands = tt
within_max kinds.End bytes next stands = tt

pub all_within_max : (pieces : List Piece) (rest : List ℕ) (at : ℕ) → EachEnds pieces rest →
    AllWithinMax (tokens_of at pieces)
all_within_max [] rest at stand = tt
all_within_max (Blank bytes ∷ pieces) rest at (stands, stand) = all_within_max pieces rest (at + length bytes) stand
all_within_max (Lexeme kind bytes ∷ pieces) rest at (stands, stand) =
    (within_max kind bytes (spell pieces ++ rest) stands, all_within_max pieces rest (at + length bytes) stand)

-- the tokens of pieces behind others
pub tokens_append : (front back : List Piece) (at : ℕ) →
    tokens_of at (front ++ back) ≡ tokens_of at front ++ tokens_of (at + width front) back
tokens_append [] back at = ap (λ n. tokens_of n back) (omega arith)
tokens_append (Blank bytes ∷ front) back at = tokens_append front back (at + length bytes)
    ∙ ap (λ n. tokens_of (at + length bytes) front ++ tokens_of n back) (omega arith)
tokens_append (Lexeme kind bytes ∷ front) back at =
    ap (λ ts. record { kind = kind; start = at; stop = at + length bytes } ∷ ts)
    (tokens_append front back (at + length bytes)
    ∙ ap (λ n. tokens_of (at + length bytes) front ++ tokens_of n back) (omega arith))

-- a piece stands in what all of them spell at its place
pub piece_there : (front back : List Piece) (piece : Piece) →
    take (length (bytes_of piece)) (drop (width front) (spell (front ++ (piece ∷ back)))) ≡ bytes_of piece
piece_there front back piece =
    ap (λ bs. take (length (bytes_of piece)) (drop (width front) bs)) (spell_append front (piece ∷ back))
    ∙ ap (λ n. take (length (bytes_of piece)) (drop n (spell front ++ spell (piece ∷ back))))
    (sym (spelled_width front))
    ∙ ap (take (length (bytes_of piece))) (drop-append_seam (spell front) (spell (piece ∷ back)))
    ∙ take-append_seam (bytes_of piece) (spell back)
