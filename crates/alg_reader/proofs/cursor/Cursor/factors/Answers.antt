-- The parts one after the other.
use Rattle.alg_reader.specs.Forms as rules
use Rattle.alg_reader.specs.Forms.{rule}
use Rattle.alg_reader.specs.Grammar.{grammar}
use Rattle.alg_reader.specs.Meaning.{act}
use Rattle.alg_reader.specs.TermMeaning.{mono}
use Rattle.alg_reader.proofs.Failing.{passed}
use Rattle.alg_reader.proofs.Sequences.{owes_rule, owes_less, owes_fails}
use Rattle.alg_reader.proofs.AnswerChoices.{factor_then_star}
use Rattle.alg_reader.proofs.cursor.Cursor.factors.Goals as goal

pub returns-in_err-first : goal.returns-in_err-first
unfolding grammar
returns-in_err-first c =
    let o = owes_rule rules.Factors _ in
    passed (rule rules.Factors) mono _ _ c.from_residual.result c.in_err-first.field-0.0
    c.from_residual.ensures.1 (owes_fails _ factor_then_star o c.in_err-first.ensures)

pub returns-in_err-factors : goal.returns-in_err-factors
unfolding grammar
returns-in_err-factors c =
    let o = owes_less factor_then_star (owes_rule rules.Factors _) c.in_ok-first.ensures in
    passed (rule rules.Factors) mono _ _ c.from_residual-in_err-factors.result c.in_err-factors.field-0.0
    c.from_residual-in_err-factors.ensures.1 (o.fails _ c.in_err-factors.ensures)

pub returns : goal.returns
unfolding grammar act
returns c =
    let o = owes_less factor_then_star (owes_rule rules.Factors _) c.in_ok-first.ensures in
    let (v, e, p) = c.in_ok-factors.ensures in
    rw e (o.takes _ _ p)
