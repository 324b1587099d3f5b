-- A numeral, or one behind a sign.
use Rattle.std.proofs.Common.{refl}
use Rattle.alg_tokens.specs.declared.token.TokenKind.TheVariants as kinds
use Rattle.alg_tokens.specs.declared.token.Sign.TheVariants as signs
use Rattle.alg_reader.specs.Forms as rules
use Rattle.alg_reader.specs.Forms.{seq, rule}
use Rattle.alg_reader.specs.Grammar.{grammar, sign, number}
use Rattle.alg_reader.specs.Meaning.{act}
use Rattle.alg_reader.specs.TermMeaning.{int}
use Rattle.alg_reader.proofs.ReadSequences.{takes_seq}
use Rattle.alg_reader.proofs.ReadChoices.{takes_left, takes_right}
use Rattle.alg_reader.proofs.ReadRows.{takes_rule}
use Rattle.alg_reader.proofs.Failing.{passed, fails_second, fails_left, fails_right, fails_rule}
use Rattle.alg_reader.proofs.OneToken.{taken, starts_seq, lacks_seq}
use Rattle.alg_reader.proofs.Sequences.{token_apart}
use Rattle.alg_reader.proofs.AnswerChoices.{int_apart}
use Rattle.alg_reader.proofs.cursor.Cursor.int.Goals as goal

pub returns-in_err-number : goal.returns-in_err-number
unfolding grammar
returns-in_err-number c =
    passed (rule rules.Int) int _ _ c.from_residual.result c.in_err-number.field-0.0 c.from_residual.ensures.1
    (fails_rule rules.Int _ _ (fails_right (seq (sign signs.Minus) number) number int_apart refl refl _ _
    (lacks_seq (sign signs.Minus) number _ refl c.if-not-sees.ensures) c.in_err-number.ensures))

pub returns-then-not-sees : goal.returns-then-not-sees
unfolding grammar act
returns-then-not-sees c =
    rw c.numeral_of.ensures (takes_rule rules.Int _ _ _ (takes_right (seq (sign signs.Minus) number) number int_apart
    refl refl _ _ _ c.in_ok-number.ensures))

pub returns-in_err-number-2 : goal.returns-in_err-number-2
unfolding grammar
returns-in_err-number-2 c =
    let minus = taken (kinds.Sign signs.Minus) _ _ c.take-minus.result c.if-not-sees.ensures c.take-minus.ensures in
    passed (rule rules.Int) int _ _ c.from_residual-in_err-number-2.result c.in_err-number-2.field-0.0
    c.from_residual-in_err-number-2.ensures.1 (fails_rule rules.Int _ _ (fails_left (seq (sign signs.Minus) number)
    number int_apart refl refl _ _ (starts_seq (sign signs.Minus) number _ c.if-not-sees.ensures)
    (fails_second (sign signs.Minus) number (token_apart (kinds.Sign signs.Minus) number) _ _ _ minus _
    c.in_err-number-2.ensures)))

pub returns : goal.returns
unfolding grammar act
returns c =
    let minus = taken (kinds.Sign signs.Minus) _ _ c.take-minus.result c.if-not-sees.ensures c.take-minus.ensures in
    rw c.opposite_of.ensures (takes_rule rules.Int _ _ _ (takes_left (seq (sign signs.Minus) number) number int_apart
    refl refl _ _ _ (takes_seq (sign signs.Minus) number (token_apart (kinds.Sign signs.Minus) number) _ _ _ _ _ minus
    c.in_ok-number-2.ensures)))
