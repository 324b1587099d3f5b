-- The parts one after the other.
use Rattle.alg_reader.specs.Forms as rules
use Rattle.alg_reader.specs.Forms.{rule}
use Rattle.alg_reader.specs.Grammar.{grammar}
use Rattle.alg_reader.specs.Meaning.{act}
use Rattle.alg_reader.specs.TermMeaning.{factor}
use Rattle.alg_reader.proofs.Failing.{passed}
use Rattle.alg_reader.proofs.Sequences.{owes_rule, owes_less, owes_fails}
use Rattle.alg_reader.proofs.AnswerChoices.{atom_then_exponent}
use Rattle.alg_reader.proofs.cursor.Cursor.factor.Goals as goal

pub returns-in_err-atom : goal.returns-in_err-atom
unfolding grammar
returns-in_err-atom c =
    let o = owes_rule rules.Factor _ in
    passed (rule rules.Factor) factor _ _ c.from_residual.result c.in_err-atom.field-0.0
    c.from_residual.ensures.1 (owes_fails _ atom_then_exponent o c.in_err-atom.ensures)

pub returns-in_err-exponent : goal.returns-in_err-exponent
unfolding grammar
returns-in_err-exponent c =
    let o = owes_less atom_then_exponent (owes_rule rules.Factor _) c.in_ok-atom.ensures in
    passed (rule rules.Factor) factor _ _ c.from_residual-in_err-exponent.result c.in_err-exponent.field-0.0
    c.from_residual-in_err-exponent.ensures.1 (o.fails _ c.in_err-exponent.ensures)

pub returns : goal.returns
unfolding grammar act
returns c =
    let o = owes_less atom_then_exponent (owes_rule rules.Factor _) c.in_ok-atom.ensures in
    let (v, e, p) = c.in_ok-exponent.ensures in
    rw e (o.takes _ _ p)
