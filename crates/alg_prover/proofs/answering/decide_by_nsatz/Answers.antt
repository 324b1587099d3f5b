use Rattle.std.proofs.Common.{◌≡◌, subst}
use Rattle.alg_nsatz.specs.Answers.{verdict_of}
use Rattle.alg_nsatz.specs.declared.decide.NsatzAnswer.{NsatzAnswer}
use Rattle.alg_nsatz.specs.Verdict.{IsNsatzVerdict}
use Rattle.alg_terms.specs.Members.{goal_at, no_goal}
use Rattle.alg_prover.proofs.Certificates.{certified_is_printable}
use Rattle.alg_prover.proofs.answering.decide_by_nsatz.Goals as goal

-- the certificate is within the limits and over the goal's table
pub returns-in-Proved-clause-printable : goal.returns-in-Proved-clause-printable
returns-in-Proved-clause-printable c =
    let file = c.args.file.now in
    let goal = goal_at file c.args.number in
    let Told : NsatzAnswer → Type 0 = λ answer. IsNsatzVerdict file goal (verdict_of answer) in
    let is : c.in_ok-constants.field-0 ≡ NsatzAnswer.Proved c.in-Proved.constants c.in-Proved.cert = c.in-Proved.is in
    certified_is_printable file goal c.requires.by_nsatz c.proved_is_within.ensures c.requires.valid.hyps
    (c.requires.valid.goals c.args.number no_goal c.requires.there) c.in-Proved.constants c.in-Proved.cert
    (subst Told is c.in_ok-constants.ensures.answer)
