-- What a reader of one form says.
use Rattle.std.specs.Prelude.{◌≡◌, List, ◌∷◌, ◌++◌, Result, Ok, Err}
use Rattle.alg_tokens.specs.declared.token.Token.{Token}
use Rattle.alg_tokens.specs.declared.token.TokenKind.{TokenKind}
use Rattle.alg_tokens.specs.declared.token.TokenKind.TheVariants as kinds
use Rattle.alg_tokens.specs.declared.token.Sign.{Sign}
use Rattle.alg_tokens.specs.declared.token.Sign.TheVariants as signs
use Rattle.alg_reader.specs.Forms.{Rule, Use, Sum, Condition, Form, a, seq, alt, many, rule, Tree, spelled}
use Rattle.alg_reader.specs.Grammar.{Fits, IsBegun, inside}
use Rattle.alg_reader.specs.TermMeaning.{Value, chain}
use Rattle.alg_reader.specs.Meaning.{value, kind_value}
use Rattle.alg_reader.specs.TermMeaning.{one, two, term, used, answer}
use Rattle.alg_reader.specs.PartMeaning.{spans, uses_after}
use Rattle.alg_reader.specs.Parts.{held, held_answer, held_statement}
use Rattle.alg_reader.specs.AnswerMeaning.{after, term_in}
use Rattle.alg_reader.specs.declared.raw.RawAnswer.TheVariants as answers
use Rattle.alg_reader.specs.declared.raw.Span.{Span}
use Rattle.alg_reader.specs.declared.raw.RawTerm.{RawTerm}
use Rattle.alg_reader.specs.declared.raw.RawUse.{RawUse}
use Rattle.alg_reader.specs.declared.parts.HeldTerm.{HeldTerm}
use Rattle.alg_reader.specs.declared.parts.HeldAnswer.{HeldAnswer}
use Rattle.alg_reader.specs.declared.parts.HeldStatement.{HeldStatement}
use Rattle.alg_reader.specs.declared.cursor.Fault.{Fault}
use Rattle.alg_reader.specs.declared.cursor.Fault.TheVariants.{NoMemory, Unexpected}
use Rattle.alg_reader.specs.Ahead.{CannotGoOn, SameHead}

-- The first of the tokens are a derivation from the form, which means x, and the rest follow. Whatever comes after
-- the next token, no other derivation that could end begins here.
pub record Takes (f : Form) (ts rest : List Token) (x : Value) : Type 0 where
  pub tree : Tree
  pub fits : Fits f tree
  pub cut : ts ≡ spelled tree ++ rest
  pub means : value tree ≡ x
  pub only : (v : Tree) (r rest' : List Token) → SameHead rest rest' → Fits f v → CannotGoOn f r
      → spelled v ++ r ≡ spelled tree ++ rest' → (v ≡ tree) × (r ≡ rest')

-- The tokens up to the rest begin a derivation, and with the next token they begin none.
pub record IsStuckAt (f : Form) (ts rest : List Token) : Type 0 where
  pub seen : List Token
  pub cut : ts ≡ seen ++ rest
  pub begun : IsBegun f seen
  pub stuck : (v : Tree) (r rest' : List Token) → SameHead rest rest' → Fits f v → CannotGoOn f r
      → spelled v ++ r ≡ seen ++ rest' → ⊥

-- why a reader of the form stops
abbrev pub Fails : Form → List Token → Fault → Type 0
Fails f ts NoMemory = Unit {0}
Fails f ts (Unexpected t) = (rest : List Token) × IsStuckAt f ts (t ∷ rest)

-- what a reader of the form answers, whose value is seen by view
abbrev pub Reads : {X : Type 0} → Form → (X → Value) → List Token → Result X Fault → List Token → Type 0
Reads f view old (Ok x) new = Takes f old new (view x)
Reads f view old (Err e) new = Fails f old e

-- What a reader of the form answers, which keeps of what it reads what `keep` says: the tokens taken mean some y,
-- seen by view.
abbrev pub ReadsKept : {X Y : Type 0} → Form → (Y → X) → (Y → Value) → List Token → Result X Fault → List Token
    → Type 0
ReadsKept {Y = Y} f keep view old (Ok x) new = (y : Y) × (x ≡ keep y) × Takes f old new (view y)
ReadsKept f keep view old (Err e) new = Fails f old e

-- what a reader of terms answers, and one of statements
abbrev pub ReadsTerm : Rule → List Token → Result HeldTerm Fault → List Token → Type 0
ReadsTerm r = ReadsKept (rule r) held term

-- what a reader of statements answers
abbrev pub ReadsStatement : Form → List Token → Result HeldStatement Fault → List Token → Type 0
ReadsStatement f = ReadsKept f held_statement kind_value

-- what a reader of answers answers
abbrev pub ReadsAnswer : Form → List Token → Result HeldAnswer Fault → List Token → Type 0
ReadsAnswer f = ReadsKept f held_answer answer

-- what is kept of what the tokens taken mean
abbrev pub ReadsAs : {X : Type 0} → Form → (Value → X) → List Token → Result X Fault → List Token → Type 0
ReadsAs f keep = ReadsKept f keep (λ v. v)

-- what is read of something in parentheses
abbrev pub TakesInside : List Token → List Token → RawTerm → Type 0
TakesInside old new t = (p : Token) × (q : Token) × (p.kind ≡ kinds.Sign signs.ParenLeft)
    × Takes (inside (rule Sum)) old new (two (one p) (two (term t) (one q)))

-- what a reader of a sum in parentheses answers
abbrev pub ReadsInside : List Token → Result HeldTerm Fault → List Token → Type 0
ReadsInside old (Ok p) new = (t : RawTerm) × (p ≡ held t) × TakesInside old new t
ReadsInside old (Err e) new = Fails (inside (rule Sum)) old e

-- an operator and its right part
abbrev pub turn : TokenKind → TokenKind → Rule → Form
turn k l q = seq (alt (a k) (a l)) (rule q)

-- What is left of a chain decides about the whole, where acc stands for what was read of it.
pub record Continues (step : Form) (r : Rule) (old now : List Token) (acc : RawTerm) : Type 0 where
  pub takes : (rest : List Token) (ops : Value) → Takes (many step) now rest ops
      → Takes (rule r) old rest (term (chain acc ops))
  pub fails : (e : Fault) → Fails (many step) now e → Fails (rule r) old e

-- What is left of a sequence decides about the whole. The values of what was read are put before the value of the rest.
pub record Owes (f g : Form) (old now : List Token) (before : Value → Value) : Type 0 where
  pub takes : (rest : List Token) (x : Value) → Takes g now rest x → Takes f old rest (before x)
  pub fails : (e : Fault) → Fails g now e → Fails f old e

-- what a reader of further names answers, with the first one, and one of further uses
abbrev pub ReadsNames : Span → List Token → Result (List Span) Fault → List Token → Type 0
ReadsNames first = ReadsAs (many (a kinds.Name)) (λ v. first ∷ spans v)

-- what a reader of further uses answers, with the first one
abbrev pub ReadsUses : RawUse → List Token → Result (List RawUse) Fault → List Token → Type 0
ReadsUses first = ReadsAs (many (seq (a (kinds.Sign signs.Comma)) (rule Use))) (λ v. first ∷ uses_after v)

-- what a reader of those answers that follow a first one, each behind a sign, with the first one; `item` says what one
-- of them is
abbrev pub ReadsMore : {X : Type 0} → Sign → Rule → (Value → List X) → X → List Token → Result (List X) Fault
    → List Token → Type 0
ReadsMore s r item first = ReadsAs (many (seq (a (kinds.Sign s)) (rule r))) (λ v. first ∷ after item v)

-- what a reader of further conditions answers, where a first one is held
abbrev pub ReadsConditions : HeldTerm → List Token → Result HeldAnswer Fault → List Token → Type 0
ReadsConditions first old result new = (t : RawTerm) → first ≡ held t
    → ReadsAs (many (seq (a (kinds.Sign signs.Comma)) (rule Condition))) (λ v. held_answer
    (answers.Proved (t ∷ after term_in v))) old result new

-- a use behind morphisms that were read before it
abbrev pub behind : List Span → RawUse → RawUse
behind path u = record { path = path ++ u.path; hyp = u.hyp }

-- what a reader of a use answers, behind morphisms that were read
abbrev pub ReadsUse : List Span → List Token → Result RawUse Fault → List Token → Type 0
ReadsUse path = ReadsKept (rule Use) (behind path) used
