-- What a text is cut into: blanks, comments and tokens, each as long as possible.
use Rattle.std.specs.Prelude.{◌≡◌, ◌≢◌, ◌≤◌, ℕ, Bool, true, false, ◌||◌, ◌==◌, ◌+◌, ◌-◌, ◌*◌, ◌^◌, ◌⊎◌, List, [], ◌∷◌, ◌++◌, length, pos}
use Rattle.std.specs.List.{AllByRecursion}
use Rattle.std.specs.Char.{IsAsciiDigit}
use Rattle.alg_terms.specs.Ascii.{TAB, LINE_FEED, CARRIAGE_RETURN, SPACE, NUMBER_SIGN, DIGIT_0}
use Rattle.alg_terms.specs.Names.{IsSpelledAsName, is_reserved}
use Rattle.alg_tokens.specs.declared.token.TokenKind.{TokenKind}
use Rattle.alg_tokens.specs.declared.token.TokenKind.TheVariants as kinds
use Rattle.alg_tokens.specs.Spelling.{spelling, sign_spelling}

-- the number that digits spell: each digit times the power of ten of its place
abbrev pub value_of : List ℕ → ℕ
value_of [] = 0
value_of (digit ∷ digits) = (digit - DIGIT_0) * 10 ^ length digits + value_of digits

-- the bytes are a numeral: one digit or more
abbrev pub IsNumeral : List ℕ → Type 0
IsNumeral bytes = (bytes ≢ []) × AllByRecursion IsAsciiDigit bytes

-- the bytes spell a token of this kind; a name that is a reserved word is that word
abbrev pub Spells : TokenKind → List ℕ → Type 0
Spells kinds.Name bytes = IsSpelledAsName bytes × (is_reserved bytes ≡ false)
Spells (kinds.Word word) bytes = bytes ≡ spelling word
Spells (kinds.Number value) bytes = IsNumeral bytes × (value ≡ pos (value_of bytes))
Spells (kinds.Sign sign) bytes = bytes ≡ sign_spelling sign
Spells kinds.End bytes = ⊥

-- a space, a tab, a line feed or a carriage return
abbrev pub is_blank : ℕ → Bool
is_blank byte = (byte == SPACE || byte == TAB) || (byte == LINE_FEED || byte == CARRIAGE_RETURN)

-- `#` and what follows it in its line
abbrev pub IsComment : List ℕ → Type 0
IsComment bytes =
    (line : List ℕ) × (bytes ≡ NUMBER_SIGN ∷ line) × AllByRecursion (λ byte. byte ≢ LINE_FEED) line

-- one of these bytes alone, or a comment
abbrev pub IsBlank : List ℕ → Type 0
IsBlank bytes = ((byte : ℕ) × (bytes ≡ byte ∷ []) × (is_blank byte ≡ true)) ⊎ IsComment bytes

-- a piece of a text, with its bytes
pub data Piece : Type 0 where
  Blank : List ℕ → Piece
  Lexeme : TokenKind → List ℕ → Piece

abbrev pub bytes_of : Piece → List ℕ
bytes_of (Blank bytes) = bytes
bytes_of (Lexeme kind bytes) = bytes

-- the bytes are what the piece says
abbrev pub IsPiece : Piece → Type 0
IsPiece (Blank bytes) = IsBlank bytes
IsPiece (Lexeme kind bytes) = Spells kind bytes

-- the text is this piece and then rest
abbrev pub BeginsWith : Piece → List ℕ → List ℕ → Type 0
BeginsWith piece text rest = IsPiece piece × (text ≡ bytes_of piece ++ rest)

-- the text is this piece and then rest, and begins with no longer piece
pub record IsFirst (piece : Piece) (text rest : List ℕ) : Type 0 where
  pub begins : BeginsWith piece text rest
  pub longest : (other : Piece) (more : List ℕ) → BeginsWith other text more → length (bytes_of other) ≤ length
      (bytes_of piece)

-- from left to right the text is cut into these pieces, each as long as possible, and rest
abbrev pub IsCut : List Piece → List ℕ → List ℕ → Type 0
IsCut [] text rest = text ≡ rest
IsCut (piece ∷ pieces) text rest = (more : List ℕ) × IsFirst piece text more × IsCut pieces more rest
