use Rattle.std.proofs.Common.{◌≡◌, subst}
use Rattle.alg_reify.specs.FieldVerdict.{IsFieldVerdict}
use Rattle.alg_field.specs.declared.decide.FieldAnswer.{FieldAnswer}
use Rattle.alg_field.specs.Answers.{verdict_of}
use Rattle.alg_prover.proofs.Printing.{field_no_is_printable, conditions_are_printable, denominator_is_printable}
use Rattle.alg_prover.proofs.answering.decide_by_field.Goals as goal

-- the conditions are terms that may stand in the answer
pub returns-in-Proved-clause-printable : goal.returns-in-Proved-clause-printable
returns-in-Proved-clause-printable c =
    let file = c.args.file.now in
    let goal = c.args.goal.now in
    let Told : FieldAnswer → Type 0 = λ answer. IsFieldVerdict file goal.equation (verdict_of answer) in
    let is : c.in_ok-answer.field-0.answer ≡ FieldAnswer.Proved c.in-Proved.conditions = c.in-Proved.is in
    conditions_are_printable file goal c.field_terms_may_stand.ensures c.requires.goal c.requires.by_field
    c.in-Proved.conditions (subst Told is c.in_ok-answer.ensures.answer)

-- the answer no has a monomial over the goal's table and coefficients within the range
pub returns-in-No-clause-printable : goal.returns-in-No-clause-printable
returns-in-No-clause-printable c =
    let file = c.args.file.now in
    let goal = c.args.goal.now in
    let Told : FieldAnswer → Type 0 = λ answer. IsFieldVerdict file goal.equation (verdict_of answer) in
    let is : c.in_ok-answer.field-0.answer ≡ FieldAnswer.No c.in-No.at c.in-No.left c.in-No.right = c.in-No.is in
    field_no_is_printable file goal c.field_no_is_over_the_table.ensures c.field_no_is_within_range.ensures
    c.in-No.at c.in-No.left c.in-No.right c.requires.by_field c.pairs.ensures.sound
    (subst Told is c.in_ok-answer.ensures.answer)

-- the denominator is a term that may stand in the answer
pub returns-clause-printable : goal.returns-clause-printable
returns-clause-printable c =
    let file = c.args.file.now in
    let goal = c.args.goal.now in
    let Told : FieldAnswer → Type 0 = λ answer. IsFieldVerdict file goal.equation (verdict_of answer) in
    let is : c.in_ok-answer.field-0.answer ≡ FieldAnswer.ZeroDenominator c.in-ZeroDenominator.denominator =
    c.in-ZeroDenominator.is in
    denominator_is_printable file goal c.field_terms_may_stand.ensures c.requires.goal c.requires.by_field
    c.in-ZeroDenominator.denominator (subst Told is c.in_ok-answer.ensures.answer)
