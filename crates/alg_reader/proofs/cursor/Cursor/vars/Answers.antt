-- The parts one after the other.
use Rattle.alg_reader.specs.Forms as rules
use Rattle.alg_reader.specs.Forms.{rule}
use Rattle.alg_reader.specs.Grammar.{grammar}
use Rattle.alg_reader.specs.Meaning.{act}
use Rattle.alg_reader.proofs.Failing.{passed_statement}
use Rattle.alg_reader.proofs.Sequences.{owes_rule, owes_less, owes_fails, owes_token, fails_token}
use Rattle.alg_reader.proofs.Choices.{names_then_colon}
use Rattle.alg_reader.proofs.cursor.Cursor.vars.Goals as goal

pub returns-in_err-_var : goal.returns-in_err-_var
unfolding grammar
returns-in_err-_var c =
    let o = owes_rule rules.Vars _ in
    passed_statement (rule rules.Vars) _ _ c.from_residual.result c.in_err-_var.field-0.0
    c.from_residual.ensures.1 (fails_token _ o c.in_err-_var.ensures)

pub returns-in_err-first : goal.returns-in_err-first
unfolding grammar
returns-in_err-first c =
    let o = owes_token (owes_rule rules.Vars _) c.in_ok-_var.ensures in
    passed_statement (rule rules.Vars) _ _ c.from_residual-in_err-first.result c.in_err-first.field-0.0
    c.from_residual-in_err-first.ensures.1 (fails_token _ o c.in_err-first.ensures)

pub returns-in_err-names : goal.returns-in_err-names
unfolding grammar
returns-in_err-names c =
    let o = owes_token (owes_token (owes_rule rules.Vars _) c.in_ok-_var.ensures) c.in_ok-first.ensures in
    passed_statement (rule rules.Vars) _ _ c.from_residual-in_err-names.result c.in_err-names.field-0.0
    c.from_residual-in_err-names.ensures.1 (owes_fails _ names_then_colon o c.in_err-names.ensures)

pub returns-in_err-_colon : goal.returns-in_err-_colon
unfolding grammar
returns-in_err-_colon c =
    let o = owes_less names_then_colon (owes_token (owes_token
    (owes_rule rules.Vars _) c.in_ok-_var.ensures) c.in_ok-first.ensures) c.in_ok-names.ensures.2 in
    passed_statement (rule rules.Vars) _ _ c.from_residual-in_err-_colon.result c.in_err-_colon.field-0.0
    c.from_residual-in_err-_colon.ensures.1 (fails_token _ o c.in_err-_colon.ensures)

pub returns-in_err-sort : goal.returns-in_err-sort
unfolding grammar
returns-in_err-sort c =
    let o = owes_token (owes_less names_then_colon (owes_token (owes_token
    (owes_rule rules.Vars _) c.in_ok-_var.ensures) c.in_ok-first.ensures) c.in_ok-names.ensures.2)
    c.in_ok-_colon.ensures in
    passed_statement (rule rules.Vars) _ _ c.from_residual-in_err-sort.result c.in_err-sort.field-0.0
    c.from_residual-in_err-sort.ensures.1 (o.fails _ c.in_err-sort.ensures)

pub returns : goal.returns
unfolding grammar act
returns c =
    let o = owes_token (owes_less names_then_colon (owes_token (owes_token
    (owes_rule rules.Vars _) c.in_ok-_var.ensures) c.in_ok-first.ensures) c.in_ok-names.ensures.2)
    c.in_ok-_colon.ensures in (
      _,
      c.plain.ensures,
      rw (c.in_ok-names.ensures.1, c.span_of.ensures, c.span_of-2.ensures) (o.takes _ _ c.in_ok-sort.ensures),
    )
