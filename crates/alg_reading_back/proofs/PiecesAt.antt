-- Pieces that stand in a text from a place on.
use Rattle.std.proofs.Common.{◌≡◌, ℕ, ◌+◌, ◌-◌, inl, inr, List, [], ◌∷◌, ◌++◌, length, take, drop, refl, sym, ap, ◌∙◌, subst, arith}
use Rattle.std.specs.Prelude.{nat_lt, if◌then◌else◌}
use Rattle.std.proofs.lemmas.Bool.{cases_Bool}
use Rattle.alg_tokens.specs.declared.token.TokenKind.{TokenKind}
use Rattle.alg_tokens.specs.Laws.{width}
use Rattle.alg_tokens.specs.Pieces.{Piece, Lexeme, bytes_of}
use Rattle.alg_reader.specs.WellRead.{bytes_at}
use Rattle.alg_reader.specs.declared.raw.RawTerm.{RawTerm}
use Rattle.alg_reading_back.proofs.WrittenTerms.{WrittenTerm, part_pieces, part_raw, in_parentheses, span}

-- each piece's bytes are those of the text, one piece behind the other
abbrev pub PiecesAt : List ℕ → ℕ → List Piece → Type 0
PiecesAt text at [] = Unit {0}
PiecesAt text at (piece ∷ pieces) =
    (take (length (bytes_of piece)) (drop at text) ≡ bytes_of piece)
    × PiecesAt text (at + length (bytes_of piece)) pieces

-- of two lists of pieces, the second stands behind the first
pub pieces_at_left : (text : List ℕ) (at : ℕ) (xs ys : List Piece) → PiecesAt text at (xs ++ ys) → PiecesAt text at xs
pieces_at_left text at [] ys h = tt
pieces_at_left text at (x ∷ xs) ys h = (h.0, pieces_at_left text (at + length (bytes_of x)) xs ys h.1)

pub pieces_at_right : (text : List ℕ) (at : ℕ) (xs ys : List Piece) → PiecesAt text at (xs ++ ys) →
    PiecesAt text (at + width xs) ys
pieces_at_right text at [] ys h =
    let here : at ≡ at + width [] = omega arith in subst (λ k. PiecesAt text k ys) here h
pieces_at_right text at (x ∷ xs) ys h =
    let there : (at + length (bytes_of x)) + width xs ≡ at + width (x ∷ xs) = omega arith in
    subst (λ k. PiecesAt text k ys) there (pieces_at_right text (at + length (bytes_of x)) xs ys h.1)

-- what stands at each piece's place stands there together
pub pieces_at_all : (text : List ℕ) (at : ℕ) (pieces : List Piece) → ((front back : List Piece) (piece : Piece) →
    pieces ≡ front ++ (piece ∷ back) → take (length (bytes_of piece)) (drop (at + width front) text) ≡ bytes_of piece) →
    PiecesAt text at pieces
pieces_at_all text at [] there = tt
pieces_at_all text at (piece ∷ pieces) there =
    let bytes = bytes_of piece in
    let here : at + width [] ≡ at = omega arith in (
      subst (λ k. take (length bytes) (drop k text) ≡ bytes) here (there [] pieces piece refl),
      pieces_at_all text (at + length bytes) pieces (λ front back other e.
          let long = length (bytes_of other) in
          let place : at + width (piece ∷ front) ≡ (at + length bytes) + width front = omega arith in
          subst (λ k. take long (drop k text) ≡ bytes_of other) place
          (there (piece ∷ front) back other (ap (λ ps. piece ∷ ps) e))),
    )

-- the bytes of a span are those of the piece that stands there
pub span_bytes : (text : List ℕ) (at : ℕ) (kind : TokenKind) (bytes : List ℕ) (pieces : List Piece) →
    PiecesAt text at (Lexeme kind bytes ∷ pieces) → bytes_at text (span at bytes) ≡ bytes
span_bytes text at kind bytes pieces h =
    let long : (at + length bytes) - at ≡ length bytes = omega arith in
    ap (λ n. take n (drop at text)) long ∙ h.0

-- what holds of a raw term wherever its pieces stand holds of it as a part, in parentheses or not
pub part_as : (text : List ℕ) (Q : RawTerm → Type 0) (l : WrittenTerm) (wanted at : ℕ) →
    ((place : ℕ) → PiecesAt text place l.pieces → Q (l.raw place)) → PiecesAt text at (part_pieces wanted l) →
    Q (part_raw wanted l at)
part_as text Q l wanted at holds placed = elim (cases_Bool (nat_lt l.level wanted)) [
  | inl inner ↦
      let inside = subst (λ b. PiecesAt text at (if b then in_parentheses l.pieces else l.pieces)) inner placed in
      let there = pieces_at_left text (at + 1) l.pieces _ inside.1 in
      subst (λ b. Q (if b then l.raw (at + 1) else l.raw at)) (sym inner) (holds (at + 1) there)
  | inr bare ↦
      let there = subst (λ b. PiecesAt text at (if b then in_parentheses l.pieces else l.pieces)) bare placed in
      subst (λ b. Q (if b then l.raw (at + 1) else l.raw at)) (sym bare) (holds at there)
]
