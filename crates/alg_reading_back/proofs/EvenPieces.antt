-- Pieces that stand have the parentheses of their kinds, and where their bytes open few, so do their tokens.
use Rattle.std.proofs.Common.{◌≡◌, ◌≤◌, ℕ, ◌+◌, true, false, List, [], ◌∷◌, ◌++◌, flat_map, length, sym, ap, subst, arith, append_assoc}
use Rattle.std.specs.Char.{IsAsciiDigit}
use Rattle.std.specs.List.{AllByRecursion}
use Rattle.std.proofs.lemmas.Bool.Decides.{nat_tests}
use Rattle.alg_terms.specs.Limits.{MAX_OPEN}
use Rattle.alg_tokens.specs.declared.token.Token.{Token}
use Rattle.alg_tokens.specs.declared.token.TokenKind.{TokenKind}
use Rattle.alg_tokens.specs.declared.token.TokenKind.TheVariants as kinds
use Rattle.alg_tokens.specs.Laws.{tokens_of}
use Rattle.alg_tokens.specs.Pieces.{Piece, Blank, Lexeme, bytes_of, is_blank}
use Rattle.alg_tokens.specs.Spelling.{spelling}
use Rattle.alg_tokens.proofs.Leads.{word_spelled}
use Rattle.alg_tokens.proofs.Neighbours.{spell, EachEnds}
use Rattle.alg_tokens.proofs.PieceEnds.{EndsBefore}
use Rattle.alg_reader.specs.Tokens as reader
use Rattle.alg_reader.specs.Tokens.{IsOneTooMany, GoesPast}
use Rattle.alg_reading_back.specs.ReadingBack.{most_open}
use Rattle.alg_reading_back.proofs.OpenBytes.{is_paren, NoParens, IsEven, opens_first, past_plain, past_lexeme}
use Rattle.alg_reading_back.proofs.PlainNames.{spelled_plain}

-- a piece has the parentheses of its kind
abbrev pub IsEvenPiece : Piece → Type 0
IsEvenPiece (Blank bytes) = NoParens bytes
IsEvenPiece (Lexeme kind bytes) = IsEven kind bytes

-- each of these does
abbrev pub Even : List Piece → Type 0
Even pieces = AllByRecursion IsEvenPiece pieces

-- ---- pieces that stand

-- bytes of blanks and digits
blank_plain : (b : ℕ) → is_blank b ≡ true → is_paren b ≡ false
blank_plain b blank = grind (arith, nat_tests)

digit_plain : (b : ℕ) → IsAsciiDigit b → is_paren b ≡ false
digit_plain b (low, high) = grind (arith, nat_tests)

digits_plain : (bytes : List ℕ) → AllByRecursion IsAsciiDigit bytes → NoParens bytes
digits_plain [] all = tt
digits_plain (b ∷ bytes) all = (digit_plain b all.0, digits_plain bytes all.1)

even_piece : (piece : Piece) (next : List ℕ) → EndsBefore piece next → IsEvenPiece piece
even_piece (Blank bytes) next (b, is, blank) = subst NoParens (sym is) (blank_plain b blank, tt)
even_piece (Lexeme kinds.Name bytes) next (is, free, stops) = spelled_plain bytes is
even_piece (Lexeme (kinds.Word word) bytes) next (is, stops) =
    subst NoParens (sym is) (spelled_plain (spelling word) (word_spelled word))
even_piece (Lexeme (kinds.Number value) bytes) next (is, same, small, stops) = digits_plain bytes is.1
even_piece (Lexeme (kinds.Sign sign) bytes) next (is, stops) = is
even_piece (Lexeme kinds.End bytes) next stands = absurd stands

pub even_if_ends : (pieces : List Piece) (rest : List ℕ) → EachEnds pieces rest → Even pieces
even_if_ends [] rest stand = tt
even_if_ends (piece ∷ pieces) rest (stands, stand) =
    (even_piece piece (spell pieces ++ rest) stands, even_if_ends pieces rest stand)

-- ---- how many are open

-- at most as many parentheses as may be are open at each of these tokens, where so many are open before them
abbrev pub HasFewOpen : ℕ → List Token → Type 0
HasFewOpen depth [] = Unit {0}
HasFewOpen depth (token ∷ tokens) =
    (reader.open_with depth token.kind ≤ MAX_OPEN) × HasFewOpen (reader.open_with depth token.kind) tokens

-- few are open at each token where the bytes open few
pub few_open : (depth at : ℕ) (pieces : List Piece) (rest : List ℕ) → Even pieces →
    most_open depth (flat_map bytes_of pieces ++ rest) ≤ MAX_OPEN → HasFewOpen depth (tokens_of at pieces)
few_open depth at [] rest even few = tt
few_open depth at (Blank bytes ∷ pieces) rest even few =
    let later = flat_map bytes_of pieces ++ rest in
    let whole = ap (most_open depth) (append_assoc bytes (flat_map bytes_of pieces) rest) in
    let past = past_plain depth bytes later even.0 in
    few_open depth (at + length bytes) pieces rest even.1 (omega arith)
few_open depth at (Lexeme kind bytes ∷ pieces) rest even few =
    let later = flat_map bytes_of pieces ++ rest in
    let whole = ap (most_open depth) (append_assoc bytes (flat_map bytes_of pieces) rest) in
    let past = past_lexeme depth kind bytes later even.0 in
    let first = opens_first (reader.open_with depth kind) later in
    (omega arith, few_open (reader.open_with depth kind) (at + length bytes) pieces rest even.1 (omega arith))

-- where few are open behind a token, it is not one parenthesis too many
passes : (depth : ℕ) (kind : TokenKind) → reader.open_with depth kind ≤ MAX_OPEN → ¬ (IsOneTooMany depth kind)
passes depth kind few (paren, many) =
    let one_more = ap (reader.open_with depth) paren in absurd (omega arith)

-- so reading goes past all tokens
pub few_pass : (depth : ℕ) (tokens : List Token) → HasFewOpen depth tokens → GoesPast depth tokens
few_pass depth [] few = tt
few_pass depth (token ∷ tokens) (first, few) =
    (passes depth token.kind first, few_pass (reader.open_with depth token.kind) tokens few)
