-- The parts one after the other.
use Rattle.alg_reader.specs.Forms as rules
use Rattle.alg_reader.specs.Forms.{rule}
use Rattle.alg_reader.specs.Grammar.{grammar}
use Rattle.alg_reader.specs.Meaning.{act}
use Rattle.alg_reader.proofs.Failing.{passed_statement}
use Rattle.alg_reader.proofs.Sequences.{owes_rule, owes_less, owes_fails, owes_token, fails_token}
use Rattle.alg_reader.proofs.AnswerChoices.{mono_then_colon}
use Rattle.alg_reader.proofs.Numerals.{owes_int, fails_int}
use Rattle.alg_reader.proofs.cursor.Cursor.no.Goals as goal

pub returns-in_err-_no : goal.returns-in_err-_no
unfolding grammar
returns-in_err-_no c =
    let o = owes_rule rules.No _ in
    passed_statement (rule rules.No) _ _ c.from_residual.result c.in_err-_no.field-0.0 c.from_residual.ensures.1
    (fails_token _ o c.in_err-_no.ensures)

pub returns-in_err-_at : goal.returns-in_err-_at
unfolding grammar
returns-in_err-_at c =
    let o = owes_token (owes_rule rules.No _) c.in_ok-_no.ensures in
    passed_statement (rule rules.No) _ _ c.from_residual-in_err-_at.result c.in_err-_at.field-0.0
    c.from_residual-in_err-_at.ensures.1 (fails_token _ o c.in_err-_at.ensures)

pub returns-in_err-at : goal.returns-in_err-at
unfolding grammar
returns-in_err-at c =
    let o = owes_token (owes_token (owes_rule rules.No _) c.in_ok-_no.ensures) c.in_ok-_at.ensures in
    passed_statement (rule rules.No) _ _ c.from_residual-in_err-at.result c.in_err-at.field-0.0
    c.from_residual-in_err-at.ensures.1 (owes_fails _ mono_then_colon o c.in_err-at.ensures)

pub returns-in_err-_colon : goal.returns-in_err-_colon
unfolding grammar
returns-in_err-_colon c =
    let before_at = owes_token (owes_token (owes_rule rules.No _) c.in_ok-_no.ensures) c.in_ok-_at.ensures in
    let o = owes_less mono_then_colon before_at c.in_ok-at.ensures in
    passed_statement (rule rules.No) _ _ c.from_residual-in_err-_colon.result c.in_err-_colon.field-0.0
    c.from_residual-in_err-_colon.ensures.1 (fails_token _ o c.in_err-_colon.ensures)

pub returns-in_err-left : goal.returns-in_err-left
unfolding grammar
returns-in_err-left c =
    let before_at = owes_token (owes_token (owes_rule rules.No _) c.in_ok-_no.ensures) c.in_ok-_at.ensures in
    let o = owes_token (owes_less mono_then_colon before_at c.in_ok-at.ensures) c.in_ok-_colon.ensures in
    passed_statement (rule rules.No) _ _ c.from_residual-in_err-left.result c.in_err-left.field-0.0
    c.from_residual-in_err-left.ensures.1 (fails_int _ o c.in_err-left.ensures)

pub returns-in_err-_and : goal.returns-in_err-_and
unfolding grammar
returns-in_err-_and c =
    let before_at = owes_token (owes_token (owes_rule rules.No _) c.in_ok-_no.ensures) c.in_ok-_at.ensures in
    let before_left = owes_token (owes_less mono_then_colon before_at c.in_ok-at.ensures) c.in_ok-_colon.ensures in
    let o = owes_int before_left c.in_ok-left.ensures in
    passed_statement (rule rules.No) _ _ c.from_residual-in_err-_and.result c.in_err-_and.field-0.0
    c.from_residual-in_err-_and.ensures.1 (fails_token _ o c.in_err-_and.ensures)

pub returns-in_err-right : goal.returns-in_err-right
unfolding grammar
returns-in_err-right c =
    let before_at = owes_token (owes_token (owes_rule rules.No _) c.in_ok-_no.ensures) c.in_ok-_at.ensures in
    let before_left = owes_token (owes_less mono_then_colon before_at c.in_ok-at.ensures) c.in_ok-_colon.ensures in
    let o = owes_token (owes_int before_left c.in_ok-left.ensures) c.in_ok-_and.ensures in
    passed_statement (rule rules.No) _ _ c.from_residual-in_err-right.result c.in_err-right.field-0.0
    c.from_residual-in_err-right.ensures.1 (o.fails _ c.in_err-right.ensures)

pub returns : goal.returns
unfolding grammar act
returns c =
    let before_at = owes_token (owes_token (owes_rule rules.No _) c.in_ok-_no.ensures) c.in_ok-_at.ensures in
    let before_left = owes_token (owes_less mono_then_colon before_at c.in_ok-at.ensures) c.in_ok-_colon.ensures in
    let o = owes_token (owes_int before_left c.in_ok-left.ensures) c.in_ok-_and.ensures in
    (_, c.plain.ensures, o.takes _ _ c.in_ok-right.ensures)
