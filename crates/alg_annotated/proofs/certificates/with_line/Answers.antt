use Rattle.std.proofs.Common.{◌≡◌, ◌≢◌, List, ℤ, Some, refl}
use Rattle.alg_lines.specs.declared.answer.Answer.{Answer}
use Rattle.alg_lines.specs.declared.answer.Answer.TheVariants as answer
use Rattle.alg_lines.specs.declared.cert.Cert.{Cert}
use Rattle.alg_lines.specs.declared.cert.Line.{Line}
use Rattle.alg_annotated.specs.Resolved.{with_line}
use Rattle.alg_annotated.proofs.certificates.with_line.Goals as goal

-- an answer without a certificate stays as it is
no_cert : (new : Line) (a : Answer) → ((constants : List ℤ) (cert : Cert) → a ≢ answer.Certified constants cert) →
    Some a ≡ with_line new (Some a)
no_cert new (answer.Certified constants cert) other = absurd (other constants cert refl)
no_cert new (answer.Proved conditions) other = refl
no_cert new (answer.No at left right) other = refl
no_cert new (answer.ZeroDenominator denominator) other = refl
no_cert new (answer.NoneUpTo power) other = refl
no_cert new (answer.GaveUp limit) other = refl
no_cert new answer.Range other = refl
no_cert new answer.Degree other = refl
no_cert new answer.Atoms other = refl

pub returns-in_default : goal.returns-in_default
returns-in_default c = no_cert c.args.line c.args.answer c.in_default.not-Certified
