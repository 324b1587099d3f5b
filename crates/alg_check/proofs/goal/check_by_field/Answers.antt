use Rattle.alg_reify.specs.Answers.{IsFieldAnswer}
use Rattle.alg_check.proofs.Answers.{compares_by}
use Rattle.alg_check.proofs.Fields.{one_field_answer}
use Rattle.alg_check.proofs.goal.check_by_field.Goals as goal

pub returns : goal.returns
returns c =
    let file = c.args.file.now in
    let e = c.args.equation.now in
    compares_by (IsFieldAnswer file e) c.in_ok-own.own c.args.answer.now c.report.result c.in_ok-own.ensures
    (one_field_answer file e c.in_ok-own.own c.args.answer.now c.in_ok-own.ensures) c.report.ensures
