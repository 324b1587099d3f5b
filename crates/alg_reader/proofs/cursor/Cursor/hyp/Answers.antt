-- The parts one after the other.
use Rattle.alg_reader.specs.Forms as rules
use Rattle.alg_reader.specs.Forms.{rule}
use Rattle.alg_reader.specs.Grammar.{grammar}
use Rattle.alg_reader.specs.Meaning.{act}
use Rattle.alg_reader.proofs.Failing.{passed_statement}
use Rattle.alg_reader.proofs.Sequences.{owes_rule, owes_less, owes_fails, owes_token, fails_token}
use Rattle.alg_reader.proofs.Choices.{relation_apart, sum_then_relation}
use Rattle.alg_reader.proofs.Held.{hyp_said}
use Rattle.alg_reader.proofs.cursor.Cursor.hyp.Goals as goal

pub returns-in_err-_hyp : goal.returns-in_err-_hyp
unfolding grammar
returns-in_err-_hyp c =
    let o = owes_rule rules.Hyp _ in
    passed_statement (rule rules.Hyp) _ _ c.from_residual.result c.in_err-_hyp.field-0.0 c.from_residual.ensures.1
    (fails_token _ o c.in_err-_hyp.ensures)

pub returns-in_err-name : goal.returns-in_err-name
unfolding grammar
returns-in_err-name c =
    let o = owes_token (owes_rule rules.Hyp _) c.in_ok-_hyp.ensures in
    passed_statement (rule rules.Hyp) _ _ c.from_residual-in_err-name.result c.in_err-name.field-0.0
    c.from_residual-in_err-name.ensures.1 (fails_token _ o c.in_err-name.ensures)

pub returns-in_err-_colon : goal.returns-in_err-_colon
unfolding grammar
returns-in_err-_colon c =
    let o = owes_token (owes_token (owes_rule rules.Hyp _) c.in_ok-_hyp.ensures) c.in_ok-name.ensures in
    passed_statement (rule rules.Hyp) _ _ c.from_residual-in_err-_colon.result c.in_err-_colon.field-0.0
    c.from_residual-in_err-_colon.ensures.1 (fails_token _ o c.in_err-_colon.ensures)

pub returns-in_err-left : goal.returns-in_err-left
unfolding grammar
returns-in_err-left c =
    let o = owes_token (owes_token (owes_token (owes_rule rules.Hyp _) c.in_ok-_hyp.ensures) c.in_ok-name.ensures)
    c.in_ok-_colon.ensures in
    passed_statement (rule rules.Hyp) _ _ c.from_residual-in_err-left.result c.in_err-left.field-0.0
    c.from_residual-in_err-left.ensures.1 (owes_fails _ sum_then_relation o c.in_err-left.ensures)

pub returns-in_err-relation : goal.returns-in_err-relation
unfolding grammar
returns-in_err-relation c =
    let o = owes_less sum_then_relation (owes_token (owes_token (owes_token
    (owes_rule rules.Hyp _) c.in_ok-_hyp.ensures) c.in_ok-name.ensures) c.in_ok-_colon.ensures)
    c.in_ok-left.ensures.2 in
    passed_statement (rule rules.Hyp) _ _ c.from_residual-in_err-relation.result c.in_err-relation.field-0.0
    c.from_residual-in_err-relation.ensures.1 (owes_fails _ relation_apart o c.in_err-relation.ensures)

pub returns-in_err-right : goal.returns-in_err-right
unfolding grammar
returns-in_err-right c =
    let o = owes_less relation_apart (owes_less sum_then_relation (owes_token (owes_token (owes_token
    (owes_rule rules.Hyp _) c.in_ok-_hyp.ensures) c.in_ok-name.ensures) c.in_ok-_colon.ensures)
    c.in_ok-left.ensures.2) c.in_ok-relation.ensures in
    passed_statement (rule rules.Hyp) _ _ c.from_residual-in_err-right.result c.in_err-right.field-0.0
    c.from_residual-in_err-right.ensures.1 (o.fails _ c.in_err-right.ensures)

pub returns : goal.returns
unfolding grammar act
returns c =
    let o = owes_less relation_apart (owes_less sum_then_relation (owes_token (owes_token (owes_token
    (owes_rule rules.Hyp _) c.in_ok-_hyp.ensures) c.in_ok-name.ensures) c.in_ok-_colon.ensures)
    c.in_ok-left.ensures.2) c.in_ok-relation.ensures in (
      _,
      hyp_said _ c.in_ok-relation.relation _ _ _ _ _ _ c.in_ok-left.ensures.1 c.in_ok-right.ensures.1
          c.sides-equation.ensures.equation c.sides-equation.ensures.too_deep,
      rw c.span_of.ensures (o.takes _ _ c.in_ok-right.ensures.2),
    )
