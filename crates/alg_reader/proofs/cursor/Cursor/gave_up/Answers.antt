-- The parts one after the other.
use Rattle.alg_reader.specs.Forms as rules
use Rattle.alg_reader.specs.Forms.{rule}
use Rattle.alg_reader.specs.Grammar.{grammar}
use Rattle.alg_reader.specs.Meaning.{act}
use Rattle.alg_reader.proofs.Failing.{passed_statement}
use Rattle.alg_reader.proofs.Sequences.{owes_rule, owes_token, fails_token}
use Rattle.alg_reader.proofs.cursor.Cursor.gave_up.Goals as goal

pub returns-in_err-_gave : goal.returns-in_err-_gave
unfolding grammar
returns-in_err-_gave c =
    let o = owes_rule rules.GaveUp _ in
    passed_statement (rule rules.GaveUp) _ _ c.from_residual.result c.in_err-_gave.field-0.0 c.from_residual.ensures.1
    (fails_token _ o c.in_err-_gave.ensures)

pub returns-in_err-_up : goal.returns-in_err-_up
unfolding grammar
returns-in_err-_up c =
    let o = owes_token (owes_rule rules.GaveUp _) c.in_ok-_gave.ensures in
    passed_statement (rule rules.GaveUp) _ _ c.from_residual-in_err-_up.result c.in_err-_up.field-0.0
    c.from_residual-in_err-_up.ensures.1 (fails_token _ o c.in_err-_up.ensures)

pub returns-in_err-_after : goal.returns-in_err-_after
unfolding grammar
returns-in_err-_after c =
    let o = owes_token (owes_token (owes_rule rules.GaveUp _) c.in_ok-_gave.ensures) c.in_ok-_up.ensures in
    passed_statement (rule rules.GaveUp) _ _ c.from_residual-in_err-_after.result c.in_err-_after.field-0.0
    c.from_residual-in_err-_after.ensures.1 (fails_token _ o c.in_err-_after.ensures)

pub returns-in_err-limit : goal.returns-in_err-limit
unfolding grammar
returns-in_err-limit c =
    let before_after = owes_token (owes_token (owes_rule rules.GaveUp _) c.in_ok-_gave.ensures) c.in_ok-_up.ensures in
    let o = owes_token before_after c.in_ok-_after.ensures in
    passed_statement (rule rules.GaveUp) _ _ c.from_residual-in_err-limit.result c.in_err-limit.field-0.0
    c.from_residual-in_err-limit.ensures.1 (o.fails _ c.in_err-limit.ensures)

pub returns : goal.returns
unfolding grammar act
returns c =
    let before_after = owes_token (owes_token (owes_rule rules.GaveUp _) c.in_ok-_gave.ensures) c.in_ok-_up.ensures in
    let o = owes_token before_after c.in_ok-_after.ensures in
    (_, c.plain.ensures, rw c.numeral_of.ensures (o.takes _ _ c.in_ok-limit.ensures))
