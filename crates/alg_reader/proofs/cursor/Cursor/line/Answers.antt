-- The parts one after the other.
use Rattle.alg_reader.specs.Forms as rules
use Rattle.alg_reader.specs.Forms.{rule}
use Rattle.alg_reader.specs.Grammar.{grammar}
use Rattle.alg_reader.specs.Meaning.{act}
use Rattle.alg_reader.proofs.Failing.{passed_statement}
use Rattle.alg_reader.proofs.Sequences.{owes_rule, owes_less, owes_fails, owes_token, fails_token}
use Rattle.alg_reader.proofs.AnswerChoices.{cofactor_then_combined}
use Rattle.alg_reader.proofs.Numerals.{owes_number, fails_number}
use Rattle.alg_reader.proofs.cursor.Cursor.line.Goals as goal

pub returns-in_err-word : goal.returns-in_err-word
unfolding grammar
returns-in_err-word c =
    let o = owes_rule (rules.Line c.args.format) _ in
    passed_statement (rule (rules.Line c.args.format)) _ _ c.from_residual.result c.in_err-word.field-0.0
    c.from_residual.ensures.1 (fails_token _ o c.in_err-word.ensures)

pub returns-in_err-a : goal.returns-in_err-a
unfolding grammar
returns-in_err-a c =
    let o = owes_token (owes_rule (rules.Line c.args.format) _) c.in_ok-word.ensures in
    passed_statement (rule (rules.Line c.args.format)) _ _ c.from_residual-in_err-a.result c.in_err-a.field-0.0
    c.from_residual-in_err-a.ensures.1 (fails_number _ o c.in_err-a.ensures)

pub returns-in_err-_comma : goal.returns-in_err-_comma
unfolding grammar
returns-in_err-_comma c =
    let before_a = owes_token (owes_rule (rules.Line c.args.format) _) c.in_ok-word.ensures in
    let o = owes_number before_a c.in_ok-a.ensures in
    passed_statement (rule (rules.Line c.args.format)) _ _ c.from_residual-in_err-_comma.result
    c.in_err-_comma.field-0.0 c.from_residual-in_err-_comma.ensures.1 (fails_token _ o c.in_err-_comma.ensures)

pub returns-in_err-m : goal.returns-in_err-m
unfolding grammar
returns-in_err-m c =
    let before_a = owes_token (owes_rule (rules.Line c.args.format) _) c.in_ok-word.ensures in
    let o = owes_token (owes_number before_a c.in_ok-a.ensures) c.in_ok-_comma.ensures in
    passed_statement (rule (rules.Line c.args.format)) _ _ c.from_residual-in_err-m.result c.in_err-m.field-0.0
    c.from_residual-in_err-m.ensures.1 (owes_fails _ (cofactor_then_combined c.args.format) o c.in_err-m.ensures)

pub returns-in_err-combined : goal.returns-in_err-combined
unfolding grammar
returns-in_err-combined c =
    let before_a = owes_token (owes_rule (rules.Line c.args.format) _) c.in_ok-word.ensures in
    let before_m = owes_token (owes_number before_a c.in_ok-a.ensures) c.in_ok-_comma.ensures in
    let o = owes_less (cofactor_then_combined c.args.format) before_m c.in_ok-m.ensures.2 in
    passed_statement (rule (rules.Line c.args.format)) _ _ c.from_residual-in_err-combined.result
    c.in_err-combined.field-0.0 c.from_residual-in_err-combined.ensures.1 (o.fails _ c.in_err-combined.ensures)

pub returns : goal.returns
unfolding grammar act
returns c =
    let before_a = owes_token (owes_rule (rules.Line c.args.format) _) c.in_ok-word.ensures in
    let before_m = owes_token (owes_number before_a c.in_ok-a.ensures) c.in_ok-_comma.ensures in
    let o = owes_less (cofactor_then_combined c.args.format) before_m c.in_ok-m.ensures.2 in
    let (v, e, p) = c.in_ok-m.ensures in (
      _,
      c.plain.ensures,
      rw (
        c.numeral_of.ensures,
        c.mono_or.ensures,
        c.mono_or-2.ensures,
        c.unwrap_or.ensures,
        c.number_one.ensures,
        e,
      ) (o.takes _ _
          c.in_ok-combined.ensures),
    )
