-- Runs at the front of a text, and the sign that two bytes begin.
use Rattle.std.specs.Prelude.{◌≡◌, ◌<◌, ◌≤◌, ℕ, Bool, false, not, ◌&&◌, ◌==◌, if◌then◌else◌, List, ◌++◌, length, take, drop, encode_utf8, Option, Some, None}
use Rattle.std.specs.Str.{IsCharBoundary, NoCharPasses}
use Rattle.alg_terms.specs.Ascii.{PAREN_LEFT, PAREN_RIGHT, ASTERISK, PLUS, COMMA, HYPHEN, FULL_STOP, SLASH, COLON, LESS_THAN, EQUALS, GREATER_THAN, CARET}
use Rattle.alg_tokens.specs.declared.token.Sign.{Sign}
use Rattle.alg_tokens.specs.declared.token.Sign.TheVariants as sign
use Rattle.alg_tokens.specs.Pieces.{Blank, BeginsWith}

-- the text begins with a character that passes, or that does not
abbrev pub BeginsChar : (ℕ → Bool) → Bool → List ℕ → Type 0
BeginsChar test answer text = (c : ℕ) × (more : List ℕ) × (text ≡ encode_utf8 c ++ more) × (test c ≡ answer)

-- the first n bytes are the longest front of characters that pass
pub record IsRun (test : ℕ → Bool) (text : List ℕ) (n : ℕ) : Type 0 where
  pub within : n ≤ length text
  pub front : NoCharPasses (λ c. not (test c)) (take n text)
  pub stops : n < length text → BeginsChar test false (drop n text)
  pub boundary : IsCharBoundary text n

-- the text begins with no blank or comment
abbrev pub BeginsNoBlank : List ℕ → Type 0
BeginsNoBlank text = (bytes : List ℕ) (rest : List ℕ) → BeginsWith (Blank bytes) text rest → ⊥

-- the longest sign that begins with these two bytes, and its length
abbrev pub sign_of : ℕ → ℕ → Option (Sign × ℕ)
sign_of first second =
    if first == HYPHEN && second == GREATER_THAN then Some (sign.Arrow, 2)
    else (if first == LESS_THAN && second == GREATER_THAN then Some (sign.NotEqual, 2)
    else (if first == FULL_STOP then Some (sign.Dot, 1)
    else (if first == COLON then Some (sign.Colon, 1)
    else (if first == COMMA then Some (sign.Comma, 1)
    else (if first == EQUALS then Some (sign.Equal, 1)
    else (if first == PAREN_LEFT then Some (sign.ParenLeft, 1)
    else (if first == PAREN_RIGHT then Some (sign.ParenRight, 1)
    else (if first == PLUS then Some (sign.Plus, 1)
    else (if first == HYPHEN then Some (sign.Minus, 1)
    else (if first == ASTERISK then Some (sign.Star, 1)
    else (if first == SLASH then Some (sign.Slash, 1)
    else (if first == CARET then Some (sign.Caret, 1)
    else None))))))))))))
