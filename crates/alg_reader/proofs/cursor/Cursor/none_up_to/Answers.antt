-- The parts one after the other.
use Rattle.alg_reader.specs.Forms as rules
use Rattle.alg_reader.specs.Forms.{rule}
use Rattle.alg_reader.specs.Grammar.{grammar}
use Rattle.alg_reader.specs.Meaning.{act}
use Rattle.alg_reader.proofs.Failing.{passed_statement}
use Rattle.alg_reader.proofs.Sequences.{owes_rule, owes_token, fails_token}
use Rattle.alg_reader.proofs.cursor.Cursor.none_up_to.Goals as goal

pub returns-in_err-_none : goal.returns-in_err-_none
unfolding grammar
returns-in_err-_none c =
    let o = owes_rule rules.NoneUpTo _ in
    passed_statement (rule rules.NoneUpTo) _ _ c.from_residual.result c.in_err-_none.field-0.0
    c.from_residual.ensures.1 (fails_token _ o c.in_err-_none.ensures)

pub returns-in_err-_up : goal.returns-in_err-_up
unfolding grammar
returns-in_err-_up c =
    let o = owes_token (owes_rule rules.NoneUpTo _) c.in_ok-_none.ensures in
    passed_statement (rule rules.NoneUpTo) _ _ c.from_residual-in_err-_up.result c.in_err-_up.field-0.0
    c.from_residual-in_err-_up.ensures.1 (fails_token _ o c.in_err-_up.ensures)

pub returns-in_err-_to : goal.returns-in_err-_to
unfolding grammar
returns-in_err-_to c =
    let o = owes_token (owes_token (owes_rule rules.NoneUpTo _) c.in_ok-_none.ensures) c.in_ok-_up.ensures in
    passed_statement (rule rules.NoneUpTo) _ _ c.from_residual-in_err-_to.result c.in_err-_to.field-0.0
    c.from_residual-in_err-_to.ensures.1 (fails_token _ o c.in_err-_to.ensures)

pub returns-in_err-_power : goal.returns-in_err-_power
unfolding grammar
returns-in_err-_power c =
    let before_to = owes_token (owes_token (owes_rule rules.NoneUpTo _) c.in_ok-_none.ensures) c.in_ok-_up.ensures in
    let o = owes_token before_to c.in_ok-_to.ensures in
    passed_statement (rule rules.NoneUpTo) _ _ c.from_residual-in_err-_power.result c.in_err-_power.field-0.0
    c.from_residual-in_err-_power.ensures.1 (fails_token _ o c.in_err-_power.ensures)

pub returns-in_err-power : goal.returns-in_err-power
unfolding grammar
returns-in_err-power c =
    let before_to = owes_token (owes_token (owes_rule rules.NoneUpTo _) c.in_ok-_none.ensures) c.in_ok-_up.ensures in
    let o = owes_token (owes_token before_to c.in_ok-_to.ensures) c.in_ok-_power.ensures in
    passed_statement (rule rules.NoneUpTo) _ _ c.from_residual-in_err-power.result c.in_err-power.field-0.0
    c.from_residual-in_err-power.ensures.1 (o.fails _ c.in_err-power.ensures)

pub returns : goal.returns
unfolding grammar act
returns c =
    let before_to = owes_token (owes_token (owes_rule rules.NoneUpTo _) c.in_ok-_none.ensures) c.in_ok-_up.ensures in
    let o = owes_token (owes_token before_to c.in_ok-_to.ensures) c.in_ok-_power.ensures in
    (_, c.plain.ensures, rw c.numeral_of.ensures (o.takes _ _ c.in_ok-power.ensures))
