-- The numeral 1, or factors.
use Rattle.std.proofs.Common.{List, refl, pos, Result, Ok, Err}
use Rattle.alg_tokens.specs.declared.token.Token.{Token}
use Rattle.alg_tokens.specs.declared.token.TokenKind.TheVariants as kinds
use Rattle.alg_reader.specs.declared.cursor.Fault.{Fault}
use Rattle.alg_reader.specs.declared.raw.RawMono.{RawMono}
use Rattle.alg_reader.specs.Forms as rules
use Rattle.alg_reader.specs.Forms.{rule}
use Rattle.alg_reader.specs.Grammar.{grammar, unit}
use Rattle.alg_reader.specs.Meaning.{act}
use Rattle.alg_reader.specs.TermMeaning.{mono}
use Rattle.alg_reader.specs.Ahead.{Lacks}
use Rattle.alg_reader.specs.Reading.{Reads}
use Rattle.alg_reader.proofs.ReadChoices.{takes_left, takes_right}
use Rattle.alg_reader.proofs.ReadRows.{takes_rule}
use Rattle.alg_reader.proofs.Failing.{fails_right, fails_rule}
use Rattle.alg_reader.proofs.OneToken.{taken}
use Rattle.alg_reader.proofs.AnswerChoices.{mono_apart}
use Rattle.alg_reader.proofs.cursor.Cursor.mono.Goals as goal

pub returns-then-sees : goal.returns-then-sees
unfolding grammar act
returns-then-sees c =
    rw c.mono_one.ensures (takes_rule rules.Mono _ _ _ (takes_left unit (rule rules.Factors) mono_apart refl refl _ _ _
    (taken (kinds.Number (pos 1)) _ _ c.take-one.result c.if-sees.ensures c.take-one.ensures)))

-- a monomial that is not 1
factors_read : (ts new : List Token) (r : Result RawMono Fault) → Lacks unit ts
    → Reads (rule rules.Factors) mono ts r new
    → Reads (rule rules.Mono) mono ts r new
unfolding grammar act
factors_read ts new (Ok m) lacks h = takes_rule rules.Mono _ _ _
    (takes_right unit (rule rules.Factors) mono_apart refl refl
    _ _ _ h)
factors_read ts new (Err e) lacks h = fails_rule rules.Mono _ _
    (fails_right unit (rule rules.Factors) mono_apart refl refl
    _ _ lacks h)

pub returns : goal.returns
returns c = factors_read _ _ c.factors.result c.if-sees.ensures c.factors.ensures
