use Rattle.std.proofs.Common.{◌≡◌, subst}
use Rattle.alg_reify.specs.RingVerdict.{IsRingVerdict}
use Rattle.alg_ring.specs.declared.decide.RingAnswer.{RingAnswer}
use Rattle.alg_ring.specs.Answers.{verdict_of}
use Rattle.alg_prover.proofs.Printing.{no_is_printable}
use Rattle.alg_prover.proofs.answering.decide_by_ring.Goals as goal

-- the answer no has a monomial over the goal's table and coefficients within the range
pub returns-clause-printable : goal.returns-clause-printable
returns-clause-printable c =
    let file = c.args.file.now in
    let goal = c.args.goal.now in
    let Told : RingAnswer → Type 0 = λ answer. IsRingVerdict file goal.equation (verdict_of answer) in
    let is : c.in_ok-answer.field-0.answer ≡ RingAnswer.No c.in-No.at c.in-No.left c.in-No.right = c.in-No.is in
    no_is_printable file goal c.no_is_over_the_table.ensures c.no_is_within_range.ensures c.in-No.at
    c.in-No.left c.in-No.right c.requires.goal.equation c.requires.by_ring c.pairs.ensures.sound
    (subst Told is c.in_ok-answer.ensures.answer)
