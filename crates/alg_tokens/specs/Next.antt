-- The next token of a text, or the fault that stands in its place.
use Rattle.std.specs.Prelude.{◌≡◌, ◌≢◌, ◌<◌, ◌≤◌, ℕ, ◌⊎◌, List, [], length, take, drop, map, ℤ, ◌≤ℤ◌, ◌<ℤ◌, Result, Ok, Err}
use Rattle.alg_tokens.specs.declared.token.TokenKind.{TokenKind}
use Rattle.alg_tokens.specs.declared.token.TokenKind.TheVariants as kinds
use Rattle.alg_tokens.specs.declared.token.Token.{Token}
use Rattle.alg_tokens.specs.declared.token.Refusal.{Refusal}
use Rattle.alg_terms.specs.Limits.{MAX_LITERAL}
use Rattle.alg_tokens.specs.declared.code.Code.{Code}
use Rattle.alg_tokens.specs.declared.code.Code.TheVariants as code
use Rattle.alg_tokens.specs.Codes.{code_number}
use Rattle.alg_tokens.specs.Pieces.{Piece, Blank, Lexeme, BeginsWith, IsFirst, IsCut}

-- rest is what follows some blanks and comments at the front of the text
abbrev pub FollowsBlanks : List ℕ → List ℕ → Type 0
FollowsBlanks text rest = (blanks : List (List ℕ)) × IsCut (map Blank blanks) text rest

-- only blanks and comments stand from one place to a later one
abbrev pub AreBlanks : List ℕ → ℕ → ℕ → Type 0
AreBlanks text at start = (at ≤ start) × (start ≤ length text) × FollowsBlanks (drop at text) (drop start text)

-- the token is the first piece of the text from its start to its stop, or the end of the text
abbrev pub StandsIn : List ℕ → Token → Type 0
StandsIn text token =
    ((token.kind ≡ kinds.End) × (token.start ≡ length text) × (token.stop ≡ length text))
    ⊎ ((token.start < token.stop) × (token.stop ≤ length text)
    × ((bytes : List ℕ) × IsFirst (Lexeme token.kind bytes) (drop token.start text) (drop token.stop text)))

-- a numeral is at most the greatest literal
abbrev pub IsWithinMax : TokenKind → Type 0
IsWithinMax (kinds.Number value) = value ≤ℤ MAX_LITERAL
IsWithinMax _ = Unit {0}

-- there is text, and no piece begins it
abbrev pub BeginsNoPiece : List ℕ → Type 0
BeginsNoPiece text = (text ≢ []) × ((piece : Piece) (rest : List ℕ) → BeginsWith piece text rest → ⊥)

-- the text begins with a numeral over the greatest literal
abbrev pub BeginsOverMax : List ℕ → Type 0
BeginsOverMax text =
    (value : ℤ) × (bytes : List ℕ) × (rest : List ℕ) × IsFirst (Lexeme (kinds.Number value) bytes) text rest ×
    (MAX_LITERAL <ℤ value)

-- the token that begins a text without blanks at its front, with its length, or the fault there
abbrev pub IsFirstToken : List ℕ → Result (TokenKind × ℕ) Code → Type 0
IsFirstToken text (Ok (kind, len)) = IsWithinMax kind
    × (((kind ≡ kinds.End) × (text ≡ []) × (len ≡ 0))
    ⊎ ((0 < len) × (len ≤ length text) × IsFirst (Lexeme kind (take len text)) text (drop len text)))
IsFirstToken text (Err fault) = ((fault ≡ code.Char) × BeginsNoPiece text)
    ⊎ ((fault ≡ code.Number) × BeginsOverMax text)

-- the first token after the blanks, or the fault there: that no token begins, or a numeral over the greatest literal
abbrev pub IsNext : List ℕ → ℕ → Result Token Refusal → Type 0
IsNext text at (Ok token) = AreBlanks text at token.start × StandsIn text token × IsWithinMax token.kind
IsNext text at (Err fault) = AreBlanks text at fault.at
    × (((fault.code ≡ code_number code.Char) × BeginsNoPiece (drop fault.at text))
    ⊎ ((fault.code ≡ code_number code.Number) × BeginsOverMax (drop fault.at text)))
