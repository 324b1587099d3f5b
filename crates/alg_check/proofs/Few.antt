-- Answers without a certificate have neither lines nor steps.
use Rattle.std.specs.Prelude.{List}
use Rattle.alg_terms.specs.declared.goals.Use.{Use}
use Rattle.alg_lines.specs.declared.answer.Answer.{Answer}
use Rattle.alg_check.specs.Answers.{HasNoCertificate}
use Rattle.alg_check.specs.Reports.{IsFew}

pub no_certificate_few : (uses : List Use) (answer : Answer) → HasNoCertificate answer → IsFew uses answer
no_certificate_few uses (Answer.Certified numbers cert) h = absurd h
no_certificate_few uses (Answer.Proved conditions) h = tt
no_certificate_few uses (Answer.No at a b) h = tt
no_certificate_few uses (Answer.ZeroDenominator t) h = tt
no_certificate_few uses (Answer.NoneUpTo power) h = tt
no_certificate_few uses (Answer.GaveUp limit) h = tt
no_certificate_few uses Answer.Atoms h = tt
no_certificate_few uses Answer.Range h = tt
no_certificate_few uses Answer.Degree h = tt
