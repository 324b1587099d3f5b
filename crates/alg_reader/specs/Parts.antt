-- What a reader holds of the terms and statements that it has read.
use Rattle.std.specs.Prelude.{◌≡◌, ℕ, List, [], ◌∷◌, ◌+◌, min, max, nat_lt, if◌then◌else◌, Option, None, Some, pos}
use Rattle.std.specs.Option.{option_or}
use Rattle.alg_terms.specs.Limits.{MAX_DEPTH}
use Rattle.alg_tokens.specs.declared.token.Token.{Token}
use Rattle.alg_reader.specs.declared.parts.HeldTerm.{HeldTerm}
use Rattle.alg_reader.specs.declared.parts.HeldAnswer.{HeldAnswer}
use Rattle.alg_reader.specs.declared.parts.HeldStatement.{HeldStatement}
use Rattle.alg_reader.specs.declared.raw.RawAnswer.{RawAnswer}
use Rattle.alg_reader.specs.declared.raw.RawAnswer.TheVariants as answers
use Rattle.alg_reader.specs.declared.raw.RawTerm.{RawTerm}
use Rattle.alg_reader.specs.declared.raw.RawNode.{RawNode}
use Rattle.alg_reader.specs.declared.raw.RawNode.TheVariants.{Int, Neg, Pow, Hom}
use Rattle.alg_reader.specs.declared.raw.RawKind.{RawKind}
use Rattle.alg_reader.specs.declared.raw.RawKind.TheVariants as raws
use Rattle.alg_reader.specs.RawTerms.{depth_of}
use Rattle.alg_reader.specs.TooDeep.{first_too_deep, kept, kept_answer, kept_kind, first_of_answer, first_of_statement}
use Rattle.alg_reader.specs.RawNodes.{at, joined, span_of, numeral_of}

-- what is held of a term: what is kept of it, its depth as far as it counts, and its first too deep node
unfoldable pub held : RawTerm → HeldTerm
held t = record { term = kept t; depth = min (depth_of t) (MAX_DEPTH + 1); too_deep = first_too_deep t }

-- what is held of an answer: what is kept of it, and its first too deep node
unfoldable pub held_answer : RawAnswer → HeldAnswer
held_answer said = record { answer = kept_answer said; too_deep = first_of_answer said }

-- what is held of a statement: what is kept of it, and its first too deep node
unfoldable pub held_statement : RawKind → HeldStatement
held_statement kind = record { kind = kept_kind kind; too_deep = first_of_statement kind }

-- no term stands in the answer
abbrev pub HasNoTermsIn : RawAnswer → Type 0
HasNoTermsIn (answers.Proved conditions) = conditions ≡ []
HasNoTermsIn (answers.ZeroDenominator denominator) = ⊥
HasNoTermsIn said = Unit {0}

-- no term stands in the statement
abbrev pub HasNoTerms : RawKind → Type 0
HasNoTerms (raws.Hyp name e) = ⊥
HasNoTerms (raws.Goal e method method_at) = ⊥
HasNoTerms (raws.Answer said) = HasNoTermsIn said
HasNoTerms kind = Unit {0}

-- the literal 0 in the place of a node that is too deep, where `first` is the first too deep node among its parts
abbrev pub left_out : ℕ → Option ℕ → HeldTerm
left_out head first =
    record { term = at head (Int (pos 0)); depth = MAX_DEPTH + 1; too_deep = option_or first (Some head) }

-- a node over parts of which the deepest has this depth
abbrev pub over : ℕ → RawNode → ℕ → Option ℕ → HeldTerm
over head node below first =
    if nat_lt below MAX_DEPTH
    then record { term = at head node; depth = below + 1; too_deep = first }
    else left_out head first

-- what is held of a leaf
abbrev pub leaf_part : RawTerm → HeldTerm
leaf_part t = record { term = t; depth = 1; too_deep = None }

-- what is held of a node, by what is held of its parts
abbrev pub binary_part : Token → HeldTerm → HeldTerm → HeldTerm
binary_part op left right = over op.start (joined op.kind left.term right.term) (max left.depth right.depth)
    (option_or left.too_deep right.too_deep)

-- of a morphism on a part
abbrev pub image_part : Token → HeldTerm → HeldTerm
image_part name of = over name.start (Hom (span_of name) of.term) of.depth of.too_deep

-- of a negation
abbrev pub opposite_part : ℕ → HeldTerm → HeldTerm
opposite_part head of = over head (Neg of.term) of.depth of.too_deep

-- of a power
abbrev pub power_part : Token → HeldTerm → Token → HeldTerm
power_part caret base exponent = over caret.start (Pow base.term (numeral_of exponent)) base.depth base.too_deep

-- of a negation once for each head, the last head innermost
abbrev pub opposites_part : List ℕ → HeldTerm → HeldTerm
opposites_part [] of = of
opposites_part (head ∷ heads) of = opposite_part head (opposites_part heads of)
