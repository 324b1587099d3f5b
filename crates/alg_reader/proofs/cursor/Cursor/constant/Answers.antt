-- The parts one after the other.
use Rattle.alg_reader.specs.Forms as rules
use Rattle.alg_reader.specs.Forms.{rule}
use Rattle.alg_reader.specs.Grammar.{grammar}
use Rattle.alg_reader.specs.Meaning.{act}
use Rattle.alg_reader.specs.TermMeaning.{one}
use Rattle.alg_reader.proofs.Failing.{passed}
use Rattle.alg_reader.proofs.Sequences.{owes_rule, owes_token, fails_token}
use Rattle.alg_reader.proofs.Numerals.{owes_number, fails_number}
use Rattle.alg_reader.proofs.cursor.Cursor.constant.Goals as goal

pub returns-in_err-number : goal.returns-in_err-number
unfolding grammar
returns-in_err-number c =
    let o = owes_rule rules.Constant _ in
    passed (rule rules.Constant) one _ _ c.from_residual.result c.in_err-number.field-0.0 c.from_residual.ensures.1
    (fails_number _ o c.in_err-number.ensures)

pub returns-in_err-_unequal : goal.returns-in_err-_unequal
unfolding grammar
returns-in_err-_unequal c =
    let o = owes_number (owes_rule rules.Constant _) c.in_ok-number.ensures in
    passed (rule rules.Constant) one _ _ c.from_residual-in_err-_unequal.result c.in_err-_unequal.field-0.0
    c.from_residual-in_err-_unequal.ensures.1 (fails_token _ o c.in_err-_unequal.ensures)

pub returns-in_err-_zero : goal.returns-in_err-_zero
unfolding grammar
returns-in_err-_zero c =
    let before_unequal = owes_number (owes_rule rules.Constant _) c.in_ok-number.ensures in
    let o = owes_token before_unequal c.in_ok-_unequal.ensures in
    passed (rule rules.Constant) one _ _ c.from_residual-in_err-_zero.result c.in_err-_zero.field-0.0
    c.from_residual-in_err-_zero.ensures.1 (o.fails _ c.in_err-_zero.ensures)

pub returns : goal.returns
unfolding grammar act
returns c =
    let before_unequal = owes_number (owes_rule rules.Constant _) c.in_ok-number.ensures in
    let o = owes_token before_unequal c.in_ok-_unequal.ensures in
    o.takes _ _ c.in_ok-_zero.ensures
