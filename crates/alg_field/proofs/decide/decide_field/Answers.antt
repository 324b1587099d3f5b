use Rattle.alg_field.proofs.Sides.{answered}
use Rattle.alg_field.proofs.decide.decide_field.Goals as goal

-- both numerators were made and compared
pub returns-in-Ok-clause-answer : goal.returns-in-Ok-clause-answer
returns-in-Ok-clause-answer c =
    answered c.args.file.now c.args.equation.now c.in-Ok.field-0 c.in_ok-answer-in-Ok.answer c.in_ok-table.ensures.small
    c.in-Ok.ensures c.in_ok-answer-in-Ok.ensures
