-- The parts one after the other.
use Rattle.std.proofs.Common.{◌∙◌}
use Rattle.alg_reader.specs.Forms as rules
use Rattle.alg_reader.specs.Forms.{rule}
use Rattle.alg_reader.specs.Grammar.{grammar}
use Rattle.alg_reader.specs.Meaning.{act}
use Rattle.alg_reader.proofs.Failing.{passed_statement}
use Rattle.alg_reader.proofs.Sequences.{owes_rule, owes_token, fails_token}
use Rattle.alg_reader.proofs.HeldAnswers.{answer_said, zero_denominator_held}
use Rattle.alg_reader.proofs.cursor.Cursor.zero_denominator.Goals as goal

pub returns-in_err-_zero : goal.returns-in_err-_zero
unfolding grammar
returns-in_err-_zero c =
    let o = owes_rule rules.ZeroDenominator _ in
    passed_statement (rule rules.ZeroDenominator) _ _ c.from_residual.result c.in_err-_zero.field-0.0
    c.from_residual.ensures.1 (fails_token _ o c.in_err-_zero.ensures)

pub returns-in_err-_denominator : goal.returns-in_err-_denominator
unfolding grammar
returns-in_err-_denominator c =
    let o = owes_token (owes_rule rules.ZeroDenominator _) c.in_ok-_zero.ensures in
    passed_statement (rule rules.ZeroDenominator) _ _ c.from_residual-in_err-_denominator.result
    c.in_err-_denominator.field-0.0
    c.from_residual-in_err-_denominator.ensures.1 (fails_token _ o c.in_err-_denominator.ensures)

pub returns-in_err-denominator : goal.returns-in_err-denominator
unfolding grammar
returns-in_err-denominator c =
    let o = owes_token (owes_token (owes_rule rules.ZeroDenominator _) c.in_ok-_zero.ensures)
    c.in_ok-_denominator.ensures in
    passed_statement (rule rules.ZeroDenominator) _ _ c.from_residual-in_err-denominator.result
    c.in_err-denominator.field-0.0
    c.from_residual-in_err-denominator.ensures.1 (o.fails _ c.in_err-denominator.ensures)

pub returns : goal.returns
unfolding grammar act
returns c =
    let o = owes_token (owes_token (owes_rule rules.ZeroDenominator _) c.in_ok-_zero.ensures)
    c.in_ok-_denominator.ensures in
    let (t, e, p) = c.in_ok-denominator.ensures in (
      _,
      c.answered.ensures ∙ answer_said _ _ (zero_denominator_held c.in_ok-denominator.denominator t e),
      o.takes _ _ p,
    )
