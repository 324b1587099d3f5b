-- What the derivations of terms mean: nodes with the bytes of their heads.
use Rattle.std.specs.Prelude.{ℕ, Bool, List}
use Rattle.alg_tokens.specs.declared.token.Token.{Token}
use Rattle.alg_tokens.specs.declared.token.TokenKind.{TokenKind}
use Rattle.alg_tokens.specs.declared.token.TokenKind.TheVariants as kinds
use Rattle.alg_terms.specs.declared.declarations.Kind.{Kind}
use Rattle.alg_reader.specs.declared.certificates.Combined.{Combined}
use Rattle.alg_reader.specs.declared.raw.RawAnswer.{RawAnswer}
use Rattle.alg_reader.specs.declared.raw.RawFactor.{RawFactor}
use Rattle.alg_reader.specs.declared.raw.RawMono.{RawMono}
use Rattle.alg_reader.specs.declared.raw.RawNumber.{RawNumber}
use Rattle.alg_reader.specs.declared.raw.RawUse.{RawUse}
use Rattle.alg_reader.specs.declared.raw.RawMethod.{RawMethod}
use Rattle.alg_reader.specs.declared.raw.Span.{Span}
use Rattle.alg_reader.specs.declared.raw.RawTerm.{RawTerm}
use Rattle.alg_reader.specs.declared.raw.RawEquation.{RawEquation}
use Rattle.alg_reader.specs.RawNodes.{binary, image, literal, opposite, power_of, variable}

-- what tokens mean: one token, two meanings, nothing, or what a rule makes of these
pub data Value : Type 0 where
  one : Token → Value
  two : Value → Value → Value
  nothing : Value
  term : RawTerm → Value
  sort : Kind → Span → Bool → Value
  hom : Span → Span → Span → Value
  vars : List Span → Span → Value
  hyp : Span → RawEquation → Value
  used : RawUse → Value
  method : RawMethod → ℕ → Value
  goal : RawEquation → RawMethod → ℕ → Value
  factor : RawFactor → Value
  mono : RawMono → Value
  int : RawNumber → Value
  answer : RawAnswer → Value
  combined : Combined → Value
  line : RawNumber → RawMono → RawNumber → RawNumber → RawMono → RawNumber → RawNumber → Value
  step : RawNumber → RawNumber → RawMono → RawNumber → RawNumber → Value

-- operators group to the left
unfoldable pub chain : RawTerm → Value → RawTerm
chain t (two (two (one op) (term u)) ops) = chain (binary op t u) ops
chain t _ = t

-- a term with its power, if it has one
abbrev pub raised : RawTerm → Value → Value
raised t (two (one caret) (one n)) = term (power_of caret t n)
raised t _ = term t

-- a name before parentheses, or alone
abbrev pub named : Token → Value → Value
named name (two (one paren) (two (term t) (one close))) = term (image name t)
named name _ = term (variable name)

-- one numeral
abbrev pub leaf_one : Token → TokenKind → Value
leaf_one t (kinds.Number n) = term (literal t)
leaf_one t _ = nothing

-- a name with what follows it, or a sum in parentheses
abbrev pub leaf_two : Token → TokenKind → Value → Value
leaf_two t kinds.Name v = named t v
leaf_two t _ (two (term u) (one close)) = term u
leaf_two t _ _ = nothing

-- a part and those that follow it
abbrev pub act_sum : Value → Value
act_sum (two (term t) ops) = term (chain t ops)
act_sum _ = nothing

-- a negation, or what stands without one
abbrev pub act_unary : Value → Value
act_unary (two (one minus) (term t)) = term (opposite minus.start t)
act_unary v = v

-- a leaf with its power
abbrev pub act_power : Value → Value
act_power (two (term t) v) = raised t v
act_power _ = nothing

-- a numeral, a name, or something in parentheses
abbrev pub act_leaf : Value → Value
act_leaf (one t) = leaf_one t t.kind
act_leaf (two (one t) v) = leaf_two t t.kind v
act_leaf _ = nothing
