-- The tokens of a text from a place on, and where reading stops.
use Rattle.std.specs.Prelude.{◌≡◌, ◌≢◌, ◌≤◌, ℕ, ◌-◌, ◌+◌, ◌⊎◌, List, [], ◌∷◌, ◌++◌, length, Ok, Err}
use Rattle.alg_terms.specs.Limits.{MAX_OPEN}
use Rattle.alg_tokens.specs.declared.code.Code.TheVariants as code
use Rattle.alg_tokens.specs.declared.token.Token.{Token}
use Rattle.alg_tokens.specs.declared.token.Refusal.{Refusal}
use Rattle.alg_tokens.specs.declared.token.TokenKind.{TokenKind}
use Rattle.alg_tokens.specs.declared.token.TokenKind.TheVariants as kinds
use Rattle.alg_tokens.specs.declared.token.Sign.TheVariants as signs
use Rattle.alg_tokens.specs.Codes.{fault_at}
use Rattle.alg_tokens.specs.Next.{IsNext}

-- these are the tokens of a text from one place to another, each the next one from where the one before stops
abbrev pub TokensTo : List ℕ → ℕ → List Token → ℕ → Type 0
TokensTo text at [] stop = at ≡ stop
TokensTo text at (token ∷ tokens) stop = IsNext text at (Ok token) × (token.kind ≢ kinds.End)
    × TokensTo text token.stop tokens stop

-- how many parentheses are open after a token, and after tokens
abbrev pub open_with : ℕ → TokenKind → ℕ
open_with depth (kinds.Sign signs.ParenLeft) = depth + 1
open_with depth (kinds.Sign signs.ParenRight) = depth - 1
open_with depth _ = depth

-- how many parentheses are open after tokens
abbrev pub open_after : ℕ → List Token → ℕ
open_after depth [] = depth
open_after depth (token ∷ tokens) = open_after (open_with depth token.kind) tokens

-- a parenthesis where as many are open as may be: reading stops at it
abbrev pub IsOneTooMany : ℕ → TokenKind → Type 0
IsOneTooMany depth kind = (kind ≡ kinds.Sign signs.ParenLeft) × (MAX_OPEN ≤ depth)

-- reading stops at none of these tokens, behind `depth` open parentheses
abbrev pub GoesPast : ℕ → List Token → Type 0
GoesPast depth [] = Unit {0}
GoesPast depth (token ∷ tokens) = ¬ (IsOneTooMany depth token.kind)
    × GoesPast (open_with depth token.kind) tokens

-- none of these tokens is the `.` that ends a statement
abbrev pub HasNoDot : List Token → Type 0
HasNoDot [] = Unit {0}
HasNoDot (token ∷ tokens) = (token.kind ≢ kinds.Sign signs.Dot) × HasNoDot tokens

-- reading from one place comes to another past these tokens, within one statement
abbrev pub Reaches : List ℕ → ℕ → List Token → ℕ → Type 0
Reaches text at tokens stop = TokensTo text at tokens stop × GoesPast 0 tokens × HasNoDot tokens

-- reading stops at a token with this fault, after others
abbrev pub StopsAt : List Token → Token → Refusal → Type 0
StopsAt before token fault = IsOneTooMany (open_after 0 before) token.kind
    × (fault ≡ fault_at code.Nesting token.start)

-- the last of the tokens is the end of a statement, or one at which reading stops with this fault
abbrev pub LastStops : List ℕ → ℕ → List Token → Refusal → Type 0
LastStops text at tokens fault = (before : List Token) × (token : Token) × (stop : ℕ)
    × (tokens ≡ before ++ token ∷ []) × Reaches text at before stop × IsNext text stop (Ok token)
    × (token.kind ≢ kinds.End) × ((token.kind ≡ kinds.Sign signs.Dot) ⊎ StopsAt before token fault)

-- the end of the text, as a token
abbrev pub end_of : List ℕ → Token
end_of text = record { kind = kinds.End; start = length text; stop = length text }

-- The tokens from a place on as far as reading can go, and the fault that it meets if it comes behind them: a text
-- that can't be cut, its end, or what stops it at the last token.
abbrev pub IsStatementCut : List ℕ → ℕ → List Token → Refusal → Type 0
IsStatementCut text at tokens fault =
    ((stop : ℕ) × Reaches text at tokens stop × IsNext text stop (Err fault))
    ⊎ ((stop : ℕ) × Reaches text at tokens stop × IsNext text stop (Ok (end_of text))
    × (fault ≡ fault_at code.End (length text)))
    ⊎ LastStops text at tokens fault

-- the fault of a kind of token at a place
abbrev pub refusal_of : TokenKind → ℕ → Refusal → Refusal
refusal_of kinds.End at fault = fault
refusal_of kind at fault = fault_at code.Syntax at

-- the fault of a token at which the grammar is stuck: behind all tokens it is the one of the cutting
abbrev pub refusal : Token → Refusal → Refusal
refusal token fault = refusal_of token.kind token.start fault
