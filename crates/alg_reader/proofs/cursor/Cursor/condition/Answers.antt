-- The parts one after the other.
use Rattle.alg_reader.specs.Forms as rules
use Rattle.alg_reader.specs.Grammar.{grammar}
use Rattle.alg_reader.specs.Meaning.{act}
use Rattle.alg_reader.proofs.Failing.{passed_term}
use Rattle.alg_reader.proofs.Sequences.{owes_rule, owes_less, owes_fails, owes_token, fails_token}
use Rattle.alg_reader.proofs.AnswerChoices.{sum_then_unequal}
use Rattle.alg_reader.proofs.cursor.Cursor.condition.Goals as goal

pub returns-in_err-sum : goal.returns-in_err-sum
unfolding grammar
returns-in_err-sum c =
    let o = owes_rule rules.Condition _ in
    passed_term rules.Condition _ _ c.from_residual.result c.in_err-sum.field-0.0
    c.from_residual.ensures.1 (owes_fails _ sum_then_unequal o c.in_err-sum.ensures)

pub returns-in_err-_unequal : goal.returns-in_err-_unequal
unfolding grammar
returns-in_err-_unequal c =
    let o = owes_less sum_then_unequal (owes_rule rules.Condition _) c.in_ok-sum.ensures.2 in
    passed_term rules.Condition _ _ c.from_residual-in_err-_unequal.result c.in_err-_unequal.field-0.0
    c.from_residual-in_err-_unequal.ensures.1 (fails_token _ o c.in_err-_unequal.ensures)

pub returns-in_err-_zero : goal.returns-in_err-_zero
unfolding grammar
returns-in_err-_zero c =
    let o = owes_token (owes_less sum_then_unequal (owes_rule rules.Condition _) c.in_ok-sum.ensures.2)
    c.in_ok-_unequal.ensures in
    passed_term rules.Condition _ _ c.from_residual-in_err-_zero.result c.in_err-_zero.field-0.0
    c.from_residual-in_err-_zero.ensures.1 (o.fails _ c.in_err-_zero.ensures)

pub returns : goal.returns
unfolding grammar act
returns c =
    let o = owes_token (owes_less sum_then_unequal (owes_rule rules.Condition _) c.in_ok-sum.ensures.2)
    c.in_ok-_unequal.ensures in
    let (t, e, p) = c.in_ok-sum.ensures in
    (t, e, o.takes _ _ c.in_ok-_zero.ensures)
