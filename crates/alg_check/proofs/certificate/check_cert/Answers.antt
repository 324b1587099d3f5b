use Rattle.std.proofs.Common.{◌≡◌, ◌≢◌, ◌++◌, [], List, sym, subst, arith, rules, length}
use Rattle.alg_lines.specs.declared.cert.Line.{Line}
use Rattle.alg_lines.specs.Accepting.{Accepting, HasPower, Begins, bad_power}
use Rattle.alg_check.specs.Checking.{FollowsLines, FollowsSteps, BreaksAtLine, acceptance_of}
use Rattle.alg_check.specs.declared.certificate.CertAnswer.{CertAnswer}
use Rattle.alg_check.proofs.Following.{refused, bad_at_line, bad_at_step, ends, lines_whole, remains}
use Rattle.alg_check.proofs.certificate.check_cert.Goals as goal
use Rattle.alg_check.proofs.certificate.check_cert.Goals.{then-cert-lt1-via-then-cert-lt1, then-cert-lt1-via-else-cert-lt1+then-cert-gt-GREATEST_POWER, then-is_zero, else-is_zero}

pub returns-then-cert-lt1-clause-answer : goal.returns-then-cert-lt1-clause-answer
returns-then-cert-lt1-clause-answer c =
    bad_power (λ power. let low = power.0 in let high = power.1 in elim c.then-cert-lt1.branch [
      | then-cert-lt1-via-then-cert-lt1 w ↦ let h = w.if-cert-lt1.true in absurd (omega arith)
      | then-cert-lt1-via-else-cert-lt1+then-cert-gt-GREATEST_POWER w ↦
          let h = w.if-cert-gt-GREATEST_POWER.true in absurd (omega arith)
    ])

pub returns-in_err-first-clause-refused : goal.returns-in_err-first-clause-refused
returns-in_err-first-clause-refused c =
    let low = c.if-cert-lt1.false in
    let high = c.if-cert-gt-GREATEST_POWER.false in
    let power : HasPower c.args.hyps.now c.args.goal.now c.args.cert.now = (omega arith, omega arith) in
    let told = refused c.args.hyps.now c.args.goal.now c.args.cert.now power c.power.result c.power.ensures.refused in
    search rules

pub returns-in-Some-clause-answer : goal.returns-in-Some-clause-answer
returns-in-Some-clause-answer c =
    let low = c.if-cert-lt1.false in
    let high = c.if-cert-gt-GREATEST_POWER.false in
    let hyps = c.args.hyps.now in
    let power : HasPower hyps c.args.goal.now c.args.cert.now = (omega arith, omega arith) in
    let made = c.follow_lines.new.made.items in
    let followed = subst (FollowsLines hyps c.items-lines.result.now made) c.in-Some.is c.in_ok-number.ensures in
    bad_at_line hyps c.args.goal.now c.args.cert.now (power, c.in_ok-first.ensures.fine) c.in-Some.number
    (subst (λ (lines : List Line). BreaksAtLine hyps lines c.in-Some.number) c.items-lines.ensures followed)

pub returns-in-Breach-clause-answer : goal.returns-in-Breach-clause-answer
returns-in-Breach-clause-answer c =
    let low = c.if-cert-lt1.false in
    let high = c.if-cert-gt-GREATEST_POWER.false in
    let hyps = c.args.hyps.now in
    let g = c.args.goal.now in
    let cert = c.args.cert.now in
    let begins : Begins hyps g cert = ((omega arith, omega arith), c.in_ok-first.ensures.fine) in
    let made = c.follow_lines.new.made.items in
    let followed = subst (FollowsLines hyps c.items-lines.result.now made) c.in_default.is c.in_ok-number.ensures in
    let lines = lines_whole hyps g cert c.items-lines.result.now made c.deref.result.now followed c.items-lines.ensures
    c.deref.ensures.value in
    bad_at_step hyps g cert begins (hyps ++ c.deref.result.now) lines c.in_ok-first.first c.items-steps.result.now _
    c.in_ok-first.ensures.power c.items-steps.ensures (search rules) c.in-Breach.number
    (subst (FollowsSteps (hyps ++ c.deref.result.now) c.in_ok-first.first c.items-steps.result.now _) c.in-Breach.is
    c.in_ok-number-2.ensures)

pub returns-clause-answer : goal.returns-clause-answer
returns-clause-answer c =
    let low = c.if-cert-lt1.false in
    let high = c.if-cert-gt-GREATEST_POWER.false in
    let hyps = c.args.hyps.now in
    let g = c.args.goal.now in
    let cert = c.args.cert.now in
    let begins : Begins hyps g cert = ((omega arith, omega arith), c.in_ok-first.ensures.fine) in
    let made = c.follow_lines.new.made.items in
    let followed = subst (FollowsLines hyps c.items-lines.result.now made) c.in_default.is c.in_ok-number.ensures in
    let lines = lines_whole hyps g cert c.items-lines.result.now made c.deref.result.now followed c.items-lines.ensures
    c.deref.ensures.value in
    let n = length c.items-lines.result.now in
    let steps = subst (FollowsSteps (hyps ++ c.deref.result.now) c.in_ok-first.first c.items-steps.result.now n)
    c.in-To.is
    c.in_ok-number-2.ensures in
    elim c.if-is_zero.branch [
      | then-is_zero w ↦
          let none : c.in-To.last ≡ [] = search rules in
          subst (λ (a : CertAnswer). Accepting hyps g cert (acceptance_of a)) (sym w.result-is)
          (ends hyps g cert begins (hyps ++ c.deref.result.now) lines c.in_ok-first.first c.items-steps.result.now n
          c.in_ok-first.ensures.power c.items-steps.ensures (search rules) c.in-To.last steps none)
      | else-is_zero w ↦
          let some : c.in-To.last ≢ [] = search rules in
          subst (λ (a : CertAnswer). Accepting hyps g cert (acceptance_of a)) (sym w.result-is)
          (remains hyps g cert begins (hyps ++ c.deref.result.now) lines c.in_ok-first.first c.items-steps.result.now n
          c.in_ok-first.ensures.power c.items-steps.ensures (search rules) c.in-To.last steps some)
    ]
