-- The constants of a certificate.
use Rattle.std.proofs.Common.{◌≡◌, List, ◌∷◌, refl, ap, ◌∙◌, Result, Ok, Err}
use Rattle.alg_tokens.specs.declared.token.Token.{Token}
use Rattle.alg_tokens.specs.declared.token.TokenKind.TheVariants as kinds
use Rattle.alg_tokens.specs.declared.token.Sign.TheVariants as signs
use Rattle.alg_tokens.specs.declared.token.Word.TheVariants as words
use Rattle.alg_reader.specs.declared.cursor.Fault.{Fault}
use Rattle.alg_reader.specs.declared.raw.RawNumber.{RawNumber}
use Rattle.alg_reader.specs.Forms as rules
use Rattle.alg_reader.specs.Forms.{Form, seq, many, rule}
use Rattle.alg_reader.specs.Grammar.{word, separated, constants}
use Rattle.alg_reader.specs.Ahead.{Starts}
use Rattle.alg_reader.specs.TermMeaning.{one, two, nothing}
use Rattle.alg_reader.specs.AnswerMeaning.{after, numeral_in, constants_of}
use Rattle.alg_reader.specs.RawNodes.{numeral_of}
use Rattle.alg_reader.specs.Reading.{Takes, ReadsAs, ReadsMore}
use Rattle.alg_reader.proofs.ReadSequences.{takes_seq}
use Rattle.alg_reader.proofs.ReadChoices.{takes_some, takes_none}
use Rattle.alg_reader.proofs.Failing.{passed_kept, fails_first, fails_second, fails_some}
use Rattle.alg_reader.proofs.OneToken.{taken, starts_seq, lacks_seq}
use Rattle.alg_reader.proofs.Sequences.{token_apart}
use Rattle.alg_reader.proofs.Trees.{some_tree}
use Rattle.alg_reader.proofs.AnswerChoices.{constant_ends}
use Rattle.alg_reader.proofs.Lists.{next_of}
use Rattle.alg_reader.proofs.cursor.Cursor.constants.Goals as goal

-- a first constant with those that follow it, and behind their word
abbrev all_constants : Form
all_constants = separated signs.Comma rules.Constant

abbrev some_constants : Form
some_constants = seq (word words.If) all_constants

-- the constants behind the first one are all that is left
constants_read : (ts mid mid' new : List Token) (w n : Token) (first : RawNumber) (r : Result (List RawNumber) Fault)
    → first ≡ numeral_of n → Starts (word words.If) ts → Takes (word words.If) ts mid (one w)
    → Takes (rule rules.Constant) mid mid' (one n) → ReadsMore signs.Comma rules.Constant numeral_in first mid' r new
    → ReadsAs constants constants_of ts r new
constants_read ts mid mid' new w n first (Ok xs) is starts here p (v, e, q) = (
  two (one w) (two (one n) v),
  e ∙ ap (λ x. x ∷ after numeral_in v) is,
  takes_some some_constants refl ts new _ (takes_seq (word words.If) all_constants (token_apart (kinds.Word words.If)
      all_constants) ts mid new _ _ here (takes_seq (rule rules.Constant) (many (next_of signs.Comma rules.Constant))
      (constant_ends (many (next_of signs.Comma rules.Constant))) mid mid' new _ _ p q)),
)
constants_read ts mid mid' new w n first (Err e) is starts here p h =
    fails_some some_constants refl ts e (starts_seq (word words.If) all_constants ts starts) (fails_second
    (word words.If) all_constants (token_apart (kinds.Word words.If) all_constants) ts mid _ here e
    (fails_second (rule rules.Constant) (many (next_of signs.Comma rules.Constant)) (constant_ends (many
    (next_of signs.Comma rules.Constant))) mid mid' _ p e h))

pub returns-then-not-sees : goal.returns-then-not-sees
returns-then-not-sees c = (
  nothing,
  c.from_vec.ensures ∙ c.new.ensures.items,
  takes_none some_constants refl _ (lacks_seq (word words.If) all_constants _ refl c.if-not-sees.ensures),
)

pub returns-in_err-first : goal.returns-in_err-first
returns-in_err-first c =
    let here = taken (kinds.Word words.If) _ _ c.take-if.result c.if-not-sees.ensures c.take-if.ensures in
    passed_kept constants constants_of (λ v. v) _ _ c.from_residual.result c.in_err-first.field-0.0
    c.from_residual.ensures.1 (fails_some some_constants refl _ _ (starts_seq (word words.If) all_constants _
    c.if-not-sees.ensures) (fails_second (word words.If) all_constants (token_apart (kinds.Word words.If)
    all_constants) _ _ _ here _ (fails_first (rule rules.Constant) (many (next_of signs.Comma rules.Constant))
    (constant_ends (many (next_of signs.Comma rules.Constant))) (some_tree (many
    (next_of signs.Comma rules.Constant))) _ _ c.in_err-first.ensures)))

pub returns : goal.returns
returns c =
    let here = taken (kinds.Word words.If) _ _ c.take-if.result c.if-not-sees.ensures c.take-if.ensures in
    constants_read _ _ _ _ _ _ _ c.more_constants.result c.numeral_of.ensures c.if-not-sees.ensures here
    c.in_ok-first.ensures c.more_constants.ensures
