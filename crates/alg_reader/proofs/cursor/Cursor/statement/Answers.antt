-- The parts one after the other.
use Rattle.alg_reader.specs.Forms as rules
use Rattle.alg_reader.specs.Forms.{rule}
use Rattle.alg_reader.specs.Grammar.{grammar}
use Rattle.alg_reader.specs.Meaning.{act}
use Rattle.alg_reader.proofs.Failing.{passed_statement}
use Rattle.alg_reader.proofs.Sequences.{owes_rule, owes_less, owes_fails}
use Rattle.alg_reader.proofs.AnswerChoices.{said_then_dot}
use Rattle.alg_reader.proofs.cursor.Cursor.statement.Goals as goal

pub returns-in_err-said : goal.returns-in_err-said
unfolding grammar
returns-in_err-said c =
    let o = owes_rule (rules.Statement c.args.place) _ in
    passed_statement (rule (rules.Statement c.args.place)) _ _ c.from_residual.result c.in_err-said.field-0.0
    c.from_residual.ensures.1 (owes_fails _ (said_then_dot c.args.place) o c.in_err-said.ensures)

pub returns-in_err-_dot : goal.returns-in_err-_dot
unfolding grammar
returns-in_err-_dot c =
    let before_said = owes_rule (rules.Statement c.args.place) _ in
    let o = owes_less (said_then_dot c.args.place) before_said c.in_ok-said.ensures.2 in
    passed_statement (rule (rules.Statement c.args.place)) _ _ c.from_residual-in_err-_dot.result
    c.in_err-_dot.field-0.0 c.from_residual-in_err-_dot.ensures.1 (o.fails _ c.in_err-_dot.ensures)

pub returns : goal.returns
unfolding grammar act
returns c =
    let before_said = owes_rule (rules.Statement c.args.place) _ in
    let o = owes_less (said_then_dot c.args.place) before_said c.in_ok-said.ensures.2 in
    let (kind, e, p) = c.in_ok-said.ensures in
    (kind, e, o.takes _ _ c.in_ok-_dot.ensures)
