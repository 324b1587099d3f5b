-- The parts one after the other.
use Rattle.alg_reader.specs.Forms as rules
use Rattle.alg_reader.specs.Forms.{rule}
use Rattle.alg_reader.specs.Grammar.{grammar}
use Rattle.alg_reader.specs.Meaning.{act}
use Rattle.alg_reader.proofs.Failing.{passed_statement}
use Rattle.alg_reader.proofs.Sequences.{owes_rule, owes_less, owes_fails, owes_token, fails_token}
use Rattle.alg_reader.proofs.Choices.{sum_then_equal, sum_then_by}
use Rattle.alg_reader.proofs.Held.{goal_said}
use Rattle.alg_reader.proofs.cursor.Cursor.goal.Goals as goal

pub returns-in_err-_goal : goal.returns-in_err-_goal
unfolding grammar
returns-in_err-_goal c =
    let o = owes_rule rules.Goal _ in
    passed_statement (rule rules.Goal) _ _ c.from_residual.result c.in_err-_goal.field-0.0
    c.from_residual.ensures.1 (fails_token _ o c.in_err-_goal.ensures)

pub returns-in_err-left : goal.returns-in_err-left
unfolding grammar
returns-in_err-left c =
    let o = owes_token (owes_rule rules.Goal _) c.in_ok-_goal.ensures in
    passed_statement (rule rules.Goal) _ _ c.from_residual-in_err-left.result c.in_err-left.field-0.0
    c.from_residual-in_err-left.ensures.1 (owes_fails _ sum_then_equal o c.in_err-left.ensures)

pub returns-in_err-equal : goal.returns-in_err-equal
unfolding grammar
returns-in_err-equal c =
    let o = owes_less sum_then_equal (owes_token
    (owes_rule rules.Goal _) c.in_ok-_goal.ensures) c.in_ok-left.ensures.2 in
    passed_statement (rule rules.Goal) _ _ c.from_residual-in_err-equal.result c.in_err-equal.field-0.0
    c.from_residual-in_err-equal.ensures.1 (fails_token _ o c.in_err-equal.ensures)

pub returns-in_err-right : goal.returns-in_err-right
unfolding grammar
returns-in_err-right c =
    let o = owes_token (owes_less sum_then_equal (owes_token
    (owes_rule rules.Goal _) c.in_ok-_goal.ensures) c.in_ok-left.ensures.2) c.in_ok-equal.ensures in
    passed_statement (rule rules.Goal) _ _ c.from_residual-in_err-right.result c.in_err-right.field-0.0
    c.from_residual-in_err-right.ensures.1 (owes_fails _ sum_then_by o c.in_err-right.ensures)

pub returns-in_err-_by : goal.returns-in_err-_by
unfolding grammar
returns-in_err-_by c =
    let o = owes_less sum_then_by (owes_token (owes_less sum_then_equal (owes_token
    (owes_rule rules.Goal _) c.in_ok-_goal.ensures) c.in_ok-left.ensures.2) c.in_ok-equal.ensures)
    c.in_ok-right.ensures.2 in
    passed_statement (rule rules.Goal) _ _ c.from_residual-in_err-_by.result c.in_err-_by.field-0.0
    c.from_residual-in_err-_by.ensures.1 (fails_token _ o c.in_err-_by.ensures)

pub returns-in_err-method : goal.returns-in_err-method
unfolding grammar
returns-in_err-method c =
    let o = owes_token (owes_less sum_then_by (owes_token (owes_less sum_then_equal (owes_token
    (owes_rule rules.Goal _) c.in_ok-_goal.ensures) c.in_ok-left.ensures.2) c.in_ok-equal.ensures)
    c.in_ok-right.ensures.2) c.in_ok-_by.ensures in
    passed_statement (rule rules.Goal) _ _ c.from_residual-in_err-method.result c.in_err-method.field-0.0
    c.from_residual-in_err-method.ensures.1 (o.fails _ c.in_err-method.ensures)

pub returns : goal.returns
unfolding grammar act
returns c =
    let o = owes_token (owes_less sum_then_by (owes_token (owes_less sum_then_equal (owes_token
    (owes_rule rules.Goal _) c.in_ok-_goal.ensures) c.in_ok-left.ensures.2) c.in_ok-equal.ensures)
    c.in_ok-right.ensures.2) c.in_ok-_by.ensures in (
      _,
      goal_said _ _ c.in_ok-equal.equal _ _ _ _ _ _ c.in_ok-left.ensures.1 c.in_ok-right.ensures.1
          c.sides-equation.ensures.equation c.sides-equation.ensures.too_deep,
      o.takes _ _ c.in_ok-method.ensures,
    )
