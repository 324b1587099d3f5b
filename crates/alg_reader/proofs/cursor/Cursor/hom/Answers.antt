-- The parts one after the other.
use Rattle.alg_reader.specs.Forms as rules
use Rattle.alg_reader.specs.Forms.{rule}
use Rattle.alg_reader.specs.Grammar.{grammar}
use Rattle.alg_reader.specs.Meaning.{act}
use Rattle.alg_reader.proofs.Failing.{passed_statement}
use Rattle.alg_reader.proofs.Sequences.{owes_rule, owes_token, fails_token}
use Rattle.alg_reader.proofs.cursor.Cursor.hom.Goals as goal

pub returns-in_err-_hom : goal.returns-in_err-_hom
unfolding grammar
returns-in_err-_hom c =
    let o = owes_rule rules.Hom _ in
    passed_statement (rule rules.Hom) _ _ c.from_residual.result c.in_err-_hom.field-0.0 c.from_residual.ensures.1
    (fails_token _ o c.in_err-_hom.ensures)

pub returns-in_err-name : goal.returns-in_err-name
unfolding grammar
returns-in_err-name c =
    let o = owes_token (owes_rule rules.Hom _) c.in_ok-_hom.ensures in
    passed_statement (rule rules.Hom) _ _ c.from_residual-in_err-name.result c.in_err-name.field-0.0
    c.from_residual-in_err-name.ensures.1 (fails_token _ o c.in_err-name.ensures)

pub returns-in_err-_colon : goal.returns-in_err-_colon
unfolding grammar
returns-in_err-_colon c =
    let o = owes_token (owes_token (owes_rule rules.Hom _) c.in_ok-_hom.ensures) c.in_ok-name.ensures in
    passed_statement (rule rules.Hom) _ _ c.from_residual-in_err-_colon.result c.in_err-_colon.field-0.0
    c.from_residual-in_err-_colon.ensures.1 (fails_token _ o c.in_err-_colon.ensures)

pub returns-in_err-from : goal.returns-in_err-from
unfolding grammar
returns-in_err-from c =
    let o = owes_token (owes_token (owes_token (owes_rule rules.Hom _) c.in_ok-_hom.ensures) c.in_ok-name.ensures)
    c.in_ok-_colon.ensures in
    passed_statement (rule rules.Hom) _ _ c.from_residual-in_err-from.result c.in_err-from.field-0.0
    c.from_residual-in_err-from.ensures.1 (fails_token _ o c.in_err-from.ensures)

pub returns-in_err-_arrow : goal.returns-in_err-_arrow
unfolding grammar
returns-in_err-_arrow c =
    let o = owes_token (owes_token (owes_token (owes_token
    (owes_rule rules.Hom _) c.in_ok-_hom.ensures) c.in_ok-name.ensures) c.in_ok-_colon.ensures) c.in_ok-from.ensures in
    passed_statement (rule rules.Hom) _ _ c.from_residual-in_err-_arrow.result c.in_err-_arrow.field-0.0
    c.from_residual-in_err-_arrow.ensures.1 (fails_token _ o c.in_err-_arrow.ensures)

pub returns-in_err-to : goal.returns-in_err-to
unfolding grammar
returns-in_err-to c =
    let o = owes_token (owes_token (owes_token (owes_token (owes_token
    (owes_rule rules.Hom _) c.in_ok-_hom.ensures) c.in_ok-name.ensures) c.in_ok-_colon.ensures)
    c.in_ok-from.ensures) c.in_ok-_arrow.ensures in
    passed_statement (rule rules.Hom) _ _ c.from_residual-in_err-to.result c.in_err-to.field-0.0
    c.from_residual-in_err-to.ensures.1 (o.fails _ c.in_err-to.ensures)

pub returns : goal.returns
unfolding grammar act
returns c =
    let o = owes_token (owes_token (owes_token (owes_token (owes_token
    (owes_rule rules.Hom _) c.in_ok-_hom.ensures) c.in_ok-name.ensures) c.in_ok-_colon.ensures)
    c.in_ok-from.ensures) c.in_ok-_arrow.ensures in (
      _,
      c.plain.ensures,
      rw (c.span_of.ensures, c.span_of-2.ensures, c.span_of-3.ensures) (o.takes _ _ c.in_ok-to.ensures),
    )
