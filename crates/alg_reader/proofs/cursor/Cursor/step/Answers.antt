-- The parts one after the other.
use Rattle.alg_reader.specs.Forms as rules
use Rattle.alg_reader.specs.Forms.{rule}
use Rattle.alg_reader.specs.Grammar.{grammar}
use Rattle.alg_reader.specs.Meaning.{act}
use Rattle.alg_reader.proofs.Failing.{passed_statement}
use Rattle.alg_reader.proofs.Sequences.{owes_rule, owes_token, fails_token}
use Rattle.alg_reader.proofs.cursor.Cursor.step.Goals as goal

pub returns-in_err-word : goal.returns-in_err-word
unfolding grammar
returns-in_err-word c =
    let o = owes_rule (rules.Step c.args.format) _ in
    passed_statement (rule (rules.Step c.args.format)) _ _ c.from_residual.result c.in_err-word.field-0.0
    c.from_residual.ensures.1 (fails_token _ o c.in_err-word.ensures)

pub returns-in_err-combined : goal.returns-in_err-combined
unfolding grammar
returns-in_err-combined c =
    let o = owes_token (owes_rule (rules.Step c.args.format) _) c.in_ok-word.ensures in
    passed_statement (rule (rules.Step c.args.format)) _ _ c.from_residual-in_err-combined.result
    c.in_err-combined.field-0.0
    c.from_residual-in_err-combined.ensures.1 (o.fails _ c.in_err-combined.ensures)

pub returns : goal.returns
unfolding grammar act
returns c =
    let o = owes_token (owes_rule (rules.Step c.args.format) _) c.in_ok-word.ensures in (
      _,
      c.plain.ensures,
      rw (c.mono_or.ensures, c.unwrap_or.ensures, c.number_one.ensures) (o.takes _ _ c.in_ok-combined.ensures),
    )
