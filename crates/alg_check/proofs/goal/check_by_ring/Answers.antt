use Rattle.alg_reify.specs.Answers.{IsRingAnswer}
use Rattle.alg_check.proofs.Answers.{compares_by, one_ring_answer}
use Rattle.alg_check.proofs.goal.check_by_ring.Goals as goal

pub returns : goal.returns
returns c =
    let file = c.args.file.now in
    let e = c.args.equation.now in
    compares_by (IsRingAnswer file e) c.in_ok-own.own c.args.answer.now c.report.result c.in_ok-own.ensures
    (one_ring_answer file e c.in_ok-own.own c.args.answer.now c.in_ok-own.ensures) c.report.ensures
