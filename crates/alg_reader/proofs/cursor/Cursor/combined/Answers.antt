-- The parts one after the other.
use Rattle.alg_reader.specs.Forms as rules
use Rattle.alg_reader.specs.Forms.{rule}
use Rattle.alg_reader.specs.Grammar.{grammar}
use Rattle.alg_reader.specs.Meaning.{act}
use Rattle.alg_reader.specs.TermMeaning.{combined}
use Rattle.alg_reader.proofs.Failing.{passed}
use Rattle.alg_reader.proofs.Sequences.{owes_rule, owes_less, owes_fails, owes_token, fails_token}
use Rattle.alg_reader.proofs.AnswerChoices.{cofactor_then_number}
use Rattle.alg_reader.proofs.Numerals.{owes_number, fails_number, owes_int, fails_int}
use Rattle.alg_reader.proofs.cursor.Cursor.combined.Goals as goal

pub returns-in_err-first : goal.returns-in_err-first
unfolding grammar
returns-in_err-first c =
    let o = owes_rule (rules.Combined c.args.format) _ in
    passed (rule (rules.Combined c.args.format)) combined _ _ c.from_residual.result c.in_err-first.field-0.0
    c.from_residual.ensures.1 (fails_number _ o c.in_err-first.ensures)

pub returns-in_err-_minus : goal.returns-in_err-_minus
unfolding grammar
returns-in_err-_minus c =
    let o = owes_number (owes_rule (rules.Combined c.args.format) _) c.in_ok-first.ensures in
    passed (rule (rules.Combined c.args.format)) combined _ _ c.from_residual-in_err-_minus.result
    c.in_err-_minus.field-0.0 c.from_residual-in_err-_minus.ensures.1 (fails_token _ o c.in_err-_minus.ensures)

pub returns-in_err-b : goal.returns-in_err-b
unfolding grammar
returns-in_err-b c =
    let before_minus = owes_number (owes_rule (rules.Combined c.args.format) _) c.in_ok-first.ensures in
    let o = owes_token before_minus c.in_ok-_minus.ensures in
    passed (rule (rules.Combined c.args.format)) combined _ _ c.from_residual-in_err-b.result c.in_err-b.field-0.0
    c.from_residual-in_err-b.ensures.1 (fails_int _ o c.in_err-b.ensures)

pub returns-in_err-_comma : goal.returns-in_err-_comma
unfolding grammar
returns-in_err-_comma c =
    let before_minus = owes_number (owes_rule (rules.Combined c.args.format) _) c.in_ok-first.ensures in
    let o = owes_int (owes_token before_minus c.in_ok-_minus.ensures) c.in_ok-b.ensures in
    passed (rule (rules.Combined c.args.format)) combined _ _ c.from_residual-in_err-_comma.result
    c.in_err-_comma.field-0.0 c.from_residual-in_err-_comma.ensures.1 (fails_token _ o c.in_err-_comma.ensures)

pub returns-in_err-n : goal.returns-in_err-n
unfolding grammar
returns-in_err-n c =
    let before_minus = owes_number (owes_rule (rules.Combined c.args.format) _) c.in_ok-first.ensures in
    let before_comma = owes_int (owes_token before_minus c.in_ok-_minus.ensures) c.in_ok-b.ensures in
    let o = owes_token before_comma c.in_ok-_comma.ensures in
    passed (rule (rules.Combined c.args.format)) combined _ _ c.from_residual-in_err-n.result c.in_err-n.field-0.0
    c.from_residual-in_err-n.ensures.1 (owes_fails _ (cofactor_then_number c.args.format) o c.in_err-n.ensures)

pub returns-in_err-j : goal.returns-in_err-j
unfolding grammar
returns-in_err-j c =
    let before_minus = owes_number (owes_rule (rules.Combined c.args.format) _) c.in_ok-first.ensures in
    let before_comma = owes_int (owes_token before_minus c.in_ok-_minus.ensures) c.in_ok-b.ensures in
    let before_n = owes_token before_comma c.in_ok-_comma.ensures in
    let o = owes_less (cofactor_then_number c.args.format) before_n c.in_ok-n.ensures.2 in
    passed (rule (rules.Combined c.args.format)) combined _ _ c.from_residual-in_err-j.result c.in_err-j.field-0.0
    c.from_residual-in_err-j.ensures.1 (fails_number _ o c.in_err-j.ensures)

pub returns-in_err-d : goal.returns-in_err-d
unfolding grammar
returns-in_err-d c =
    let before_minus = owes_number (owes_rule (rules.Combined c.args.format) _) c.in_ok-first.ensures in
    let before_comma = owes_int (owes_token before_minus c.in_ok-_minus.ensures) c.in_ok-b.ensures in
    let before_n = owes_token before_comma c.in_ok-_comma.ensures in
    let before_j = owes_less (cofactor_then_number c.args.format) before_n c.in_ok-n.ensures.2 in
    let o = owes_number before_j c.in_ok-j.ensures in
    passed (rule (rules.Combined c.args.format)) combined _ _ c.from_residual-in_err-d.result c.in_err-d.field-0.0
    c.from_residual-in_err-d.ensures.1 (o.fails _ c.in_err-d.ensures)

pub returns : goal.returns
unfolding grammar act
returns c =
    let before_minus = owes_number (owes_rule (rules.Combined c.args.format) _) c.in_ok-first.ensures in
    let before_comma = owes_int (owes_token before_minus c.in_ok-_minus.ensures) c.in_ok-b.ensures in
    let before_n = owes_token before_comma c.in_ok-_comma.ensures in
    let before_j = owes_less (cofactor_then_number c.args.format) before_n c.in_ok-n.ensures.2 in
    let o = owes_number before_j c.in_ok-j.ensures in
    let (v, e, p) = c.in_ok-n.ensures in
    let (w, f, q) = c.in_ok-d.ensures in
    rw (c.numeral_of.ensures, c.numeral_of-2.ensures, e, f) (o.takes _ _ q)
