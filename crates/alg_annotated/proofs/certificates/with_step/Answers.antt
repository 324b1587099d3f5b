use Rattle.std.proofs.Common.{◌≡◌, ◌≢◌, List, ℤ, Some, refl}
use Rattle.alg_lines.specs.declared.answer.Answer.{Answer}
use Rattle.alg_lines.specs.declared.answer.Answer.TheVariants as answer
use Rattle.alg_lines.specs.declared.cert.Cert.{Cert}
use Rattle.alg_lines.specs.declared.cert.GoalStep.{GoalStep}
use Rattle.alg_annotated.specs.Resolved.{with_step}
use Rattle.alg_annotated.proofs.certificates.with_step.Goals as goal

-- an answer without a certificate stays as it is
no_cert : (new : GoalStep) (a : Answer) → ((constants : List ℤ) (cert : Cert) → a ≢ answer.Certified constants cert) →
    Some a ≡ with_step new (Some a)
no_cert new (answer.Certified constants cert) other = absurd (other constants cert refl)
no_cert new (answer.Proved conditions) other = refl
no_cert new (answer.No at left right) other = refl
no_cert new (answer.ZeroDenominator denominator) other = refl
no_cert new (answer.NoneUpTo power) other = refl
no_cert new (answer.GaveUp limit) other = refl
no_cert new answer.Range other = refl
no_cert new answer.Degree other = refl
no_cert new answer.Atoms other = refl

pub returns-in_default : goal.returns-in_default
returns-in_default c = no_cert c.args.step c.args.answer c.in_default.not-Certified
