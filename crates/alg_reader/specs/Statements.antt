-- The statement that stands at a place of a text, or the first fault there.
use Rattle.std.specs.Prelude.{◌≡◌, ◌≢◌, ℕ, ◌⊎◌, List, [], ◌∷◌, ◌++◌, length, None, Result, Ok, Err}
use Rattle.alg_tokens.specs.declared.code.Code.TheVariants as code
use Rattle.alg_tokens.specs.declared.token.Token.{Token}
use Rattle.alg_tokens.specs.declared.token.Refusal.{Refusal}
use Rattle.alg_tokens.specs.declared.token.TokenKind.TheVariants as kinds
use Rattle.alg_tokens.specs.Codes.{fault_at}
use Rattle.alg_tokens.specs.Next.{IsNext}
use Rattle.alg_reader.specs.declared.place.Place.{Place}
use Rattle.alg_reader.specs.declared.raw.RawKind.{RawKind}
use Rattle.alg_reader.specs.declared.raw.RawKind.TheVariants as raws
use Rattle.alg_reader.specs.declared.reading.Raw.{Raw}
use Rattle.alg_reader.specs.declared.reading.FileEnd.{FileEnd}
use Rattle.alg_reader.specs.declared.reading.FileEnd.TheVariants.{Refused, NoMemory}
use Rattle.alg_reader.specs.Forms.{Statement, Form, rule, Tree, spelled}
use Rattle.alg_reader.specs.Grammar.{Fits, IsBegun}
use Rattle.alg_reader.specs.Meaning.{value, kind_value}
use Rattle.alg_reader.specs.TooDeep.{kept_kind, first_of_statement}
use Rattle.alg_reader.specs.Tokens.{TokensTo, GoesPast, Reaches, StopsAt, end_of}

-- the form of what may stand at a place
abbrev pub statement_at : Place → Form
statement_at place = rule (Statement place)

-- the grammar derives the tokens at a place, and they say this
abbrev pub IsStatement : Place → List Token → RawKind → Type 0
IsStatement place tokens kind =
    (v : Tree) × Fits (statement_at place) v × (spelled v ≡ tokens) × (value v ≡ kind_value kind)

-- a statement begins so at a place
abbrev pub Begins : Place → List Token → Type 0
Begins place tokens = IsBegun (statement_at place) tokens

-- with this token no statement begins, or one begins so and reading stops there
abbrev pub EndsReading : Place → List Token → Token → Refusal → Type 0
EndsReading place before token fault =
    ((fault ≡ fault_at code.Syntax token.start) × (Begins place (before ++ token ∷ []) → ⊥))
    ⊎ (StopsAt before token fault × Begins place (before ++ token ∷ []))

-- What ends reading behind tokens that begin a statement: what can't be cut, the end inside a statement, or a token.
abbrev pub FaultBehind : Place → List ℕ → List Token → ℕ → Refusal → Type 0
FaultBehind place text before stop fault = IsNext text stop (Err fault)
    ⊎ (IsNext text stop (Ok (end_of text)) × (before ≢ []) × (fault ≡ fault_at code.End (length text)))
    ⊎ ((token : Token) × IsNext text stop (Ok token) × (token.kind ≢ kinds.End)
    × EndsReading place before token fault)

-- the text ends here, and this says so
abbrev pub IsEnd : List ℕ → ℕ → Raw → Type 0
IsEnd text at raw = IsNext text at (Ok (end_of text))
    × (raw ≡ record { kind = raws.End; start = length text; stop = length text; too_deep = None })

-- what is kept of a statement, with its first too deep node
abbrev pub Keeps : Raw → RawKind → Type 0
Keeps raw kind = (raw.kind ≡ kept_kind kind) × (raw.too_deep ≡ first_of_statement kind)

-- the tokens from here to a `.` are a statement that reading goes past, of which this is kept
abbrev pub StandsAt : Place → List ℕ → ℕ → Raw → Type 0
StandsAt place text at raw = (first : Token) × (more : List Token)
    × TokensTo text at (first ∷ more) raw.stop × GoesPast 0 (first ∷ more) × (raw.start ≡ first.start)
    × ((kind : RawKind) × IsStatement place (first ∷ more) kind × Keeps raw kind)

-- This stands at a byte of a text: its end, or a statement of the place; or the first fault, behind tokens that begin
-- a statement.
unfoldable pub IsRead : Place → List ℕ → ℕ → Result Raw FileEnd → Type 0
IsRead place text at (Ok raw) = IsEnd text at raw ⊎ StandsAt place text at raw
IsRead place text at (Err NoMemory) = Unit {0}
IsRead place text at (Err (Refused fault)) = (before : List Token) × (stop : ℕ)
    × Reaches text at before stop × Begins place before × FaultBehind place text before stop fault
