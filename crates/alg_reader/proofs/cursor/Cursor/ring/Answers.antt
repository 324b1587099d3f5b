-- The parts one after the other.
use Rattle.alg_reader.specs.Forms as rules
use Rattle.alg_reader.specs.Forms.{rule}
use Rattle.alg_reader.specs.Grammar.{grammar}
use Rattle.alg_reader.specs.Meaning.{act}
use Rattle.alg_reader.proofs.Failing.{passed_statement}
use Rattle.alg_reader.proofs.Sequences.{owes_rule, owes_token, fails_token}
use Rattle.alg_reader.proofs.cursor.Cursor.ring.Goals as goal

pub returns-in_err-_ring : goal.returns-in_err-_ring
unfolding grammar
returns-in_err-_ring c =
    let o = owes_rule rules.Ring _ in
    passed_statement (rule rules.Ring) _ _ c.from_residual.result c.in_err-_ring.field-0.0
    c.from_residual.ensures.1 (fails_token _ o c.in_err-_ring.ensures)

pub returns-in_err-name : goal.returns-in_err-name
unfolding grammar
returns-in_err-name c =
    let o = owes_token (owes_rule rules.Ring _) c.in_ok-_ring.ensures in
    passed_statement (rule rules.Ring) _ _ c.from_residual-in_err-name.result c.in_err-name.field-0.0
    c.from_residual-in_err-name.ensures.1 (o.fails _ c.in_err-name.ensures)

pub returns : goal.returns
unfolding grammar act
returns c =
    let o = owes_token (owes_rule rules.Ring _) c.in_ok-_ring.ensures in
    (_, c.plain.ensures, rw c.span_of.ensures (o.takes _ _ c.in_ok-name.ensures))
