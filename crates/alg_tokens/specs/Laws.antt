-- Laws of the cutting.
use Rattle.std.specs.Prelude.{◌≡◌, ◌≢◌, ◌≤◌, ◌↔◌, ℕ, ◌+◌, List, [], ◌∷◌, ◌++◌, length, drop, Result, Ok}
use Rattle.alg_tokens.specs.declared.token.TokenKind.TheVariants as kinds
use Rattle.alg_tokens.specs.declared.token.Token.{Token}
use Rattle.alg_tokens.specs.declared.token.Refusal.{Refusal}
use Rattle.alg_tokens.specs.Pieces.{Piece, Blank, Lexeme, bytes_of, IsCut}
use Rattle.alg_tokens.specs.Next.{IsNext, IsWithinMax}

-- a text has at most one cutting
abbrev pub OneCutting : Type 0
OneCutting = (text : List ℕ) (one other : List Piece) → IsCut one text [] → IsCut other text [] → one ≡ other

-- at each place of a text there is at most one next token or fault
abbrev pub OneNext : Type 0
OneNext = (text : List ℕ) (at : ℕ) (one other : Result Token Refusal) → IsNext text at one
    → IsNext text at other → one ≡ other

-- how many bytes the pieces have
abbrev pub width : List Piece → ℕ
width [] = 0
width (piece ∷ pieces) = length (bytes_of piece) + width pieces

-- the tokens among pieces that begin at a place, with their places
abbrev pub tokens_of : ℕ → List Piece → List Token
tokens_of at [] = []
tokens_of at (Blank bytes ∷ pieces) = tokens_of (at + length bytes) pieces
tokens_of at (Lexeme kind bytes ∷ pieces) = record { kind = kind; start = at; stop = at + length bytes }
    ∷ tokens_of (at + length bytes) pieces

-- no numeral is over the greatest literal
abbrev pub AllWithinMax : List Token → Type 0
AllWithinMax [] = Unit {0}
AllWithinMax (token ∷ tokens) = IsWithinMax token.kind × AllWithinMax tokens

-- these are the tokens of a text from a place on, each the next one from where the one before stops, and then the
-- text ends
abbrev pub TokensFrom : List ℕ → ℕ → List Token → Type 0
TokensFrom text at [] = IsNext text at (Ok (record { kind = kinds.End; start = length text; stop = length text }))
TokensFrom text at (token ∷ tokens) = IsNext text at (Ok token) × (token.kind ≢ kinds.End)
    × TokensFrom text token.stop tokens

-- token by token from any place gives the tokens of the cutting of what is left there
abbrev pub CutFromAnywhere : Type 0
CutFromAnywhere = (text : List ℕ) (at : ℕ) (tokens : List Token) → at ≤ length text →
    TokensFrom text at tokens ↔ ((pieces : List Piece) × IsCut pieces (drop at text) [] × (tokens_of at pieces
    ≡ tokens) × AllWithinMax tokens)

-- where a piece of the cutting begins, what is left is cut into the pieces that are left
abbrev pub CutGoesOn : Type 0
CutGoesOn = (text : List ℕ) (before after : List Piece) → IsCut (before ++ after) text [] → IsCut after (drop
    (width before) text) []
