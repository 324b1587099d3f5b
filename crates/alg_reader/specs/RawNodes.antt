-- Nodes and parts of statements, as tokens give them.
use Rattle.std.specs.Prelude.{ℕ, Bool, true, false, List, [], ◌∷◌, ℤ, pos}
use Rattle.alg_tokens.specs.declared.token.Token.{Token}
use Rattle.alg_tokens.specs.declared.token.TokenKind.{TokenKind}
use Rattle.alg_tokens.specs.declared.token.TokenKind.TheVariants as kinds
use Rattle.alg_tokens.specs.declared.token.Sign.TheVariants as signs
use Rattle.alg_reader.specs.declared.raw.Span.{Span}
use Rattle.alg_reader.specs.declared.raw.RawNumber.{RawNumber}
use Rattle.alg_reader.specs.declared.raw.RawTerm.{RawTerm, roll-RawTerm}
use Rattle.alg_reader.specs.declared.raw.RawNode.{RawNode}
use Rattle.alg_reader.specs.declared.raw.RawNode.TheVariants.{Var, Int, Neg, Add, Sub, Mul, Div, Pow, Hom}

-- a node with its head
abbrev pub at : ℕ → RawNode → RawTerm
at head n = roll-RawTerm (record { head = head; node = n })

-- the bytes of a token
abbrev pub span_of : Token → Span
span_of t = record { start = t.start; stop = t.stop }

-- the number of a numeral
abbrev pub number_of : TokenKind → ℤ
number_of (kinds.Number n) = n
number_of _ = pos 0

-- the number of a token, with its place
abbrev pub numeral_of : Token → RawNumber
numeral_of t = record { value = number_of t.kind; at = t.start }

-- the node of an operator
abbrev pub joined : TokenKind → RawTerm → RawTerm → RawNode
joined (kinds.Sign signs.Plus) t u = Add t u
joined (kinds.Sign signs.Minus) t u = Sub t u
joined (kinds.Sign signs.Star) t u = Mul t u
joined _ t u = Div t u

-- whether the sign between two sides is `<>`
abbrev pub is_unequal : TokenKind → Bool
is_unequal (kinds.Sign signs.NotEqual) = true
is_unequal _ = false

-- an operator's node, whose head is the operator
abbrev pub binary : Token → RawTerm → RawTerm → RawTerm
binary op t u = at op.start (joined op.kind t u)

-- a literal, whose head is its numeral
abbrev pub literal : Token → RawTerm
literal t = at t.start (Int (number_of t.kind))

-- a variable, whose head is its name
abbrev pub variable : Token → RawTerm
variable t = at t.start (Var (span_of t))

-- a morphism on a term, whose head is its name
abbrev pub image : Token → RawTerm → RawTerm
image name t = at name.start (Hom (span_of name) t)

-- a negation, whose head is its sign
abbrev pub opposite : ℕ → RawTerm → RawTerm
opposite head t = at head (Neg t)

-- the opposite once for each head, the last head innermost
abbrev pub opposites : List ℕ → RawTerm → RawTerm
opposites [] t = t
opposites (head ∷ heads) t = opposite head (opposites heads t)

-- a power, whose head is its sign
abbrev pub power_of : Token → RawTerm → Token → RawTerm
power_of caret t n = at caret.start (Pow t (numeral_of n))
