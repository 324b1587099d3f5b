use Rattle.std.proofs.Common.{◌≡◌, ◌<◌, ◌+◌, List, None, length, rules, sym, subst}
use Rattle.std.specs.Prelude.{slice_index_or}
use Rattle.std.specs.Option.{option_copied}
use Rattle.alg_check.specs.Reports.{IsFew, IsReport}
use Rattle.alg_lines.specs.declared.answer.GoalCheck.{GoalCheck}
use Rattle.alg_terms.specs.Members.{goal_at, uses_of}
use Rattle.alg_cli.proofs.Reported.{AreFirst, all_reported, behind, few_at, next_report, read_at}
use Rattle.alg_cli.proofs.checked.reports_on.Goals as goal

-- the certificate of an answer is few lines and steps
pub check_goal-requires-clause-few : goal.check_goal-requires-clause-few
check_goal-requires-clause-few c =
    let all = c.args.all.now in
    let number = c.loop-number.number in
    let within : number < length all.file.goals = search rules in
    let read : option_copied c.as_ref-answer.result ≡ slice_index_or all.answers number None =
    read_at all number c.items.result.now c.items-answers.result.now c.index-answers-number.result c.as_ref-answer.result
    c.requires.answers c.items.ensures c.loop-number-test.true c.items-answers.ensures c.index-answers-number.is
    c.as_ref-answer.ensures.value in
    behind (IsFew (uses_of (goal_at all.file number).method)) c.as_ref-answer.result (slice_index_or all.answers number None)
    read (few_at all number within c.requires.answers c.requires.few)

-- one more goal has its report
pub loop-number-preserved : goal.loop-number-preserved
loop-number-preserved c =
    let all = c.args.all.now in
    let number = c.loop-number.number in
    let report = c.in_ok-report.report in
    let After : List GoalCheck → Type 0 = AreFirst all (number + 1) in
    let read : option_copied c.as_ref-answer.result ≡ slice_index_or all.answers number None =
    read_at all number c.items.result.now c.items-answers.result.now c.index-answers-number.result c.as_ref-answer.result
    c.requires.answers c.items.ensures c.loop-number-test.true c.items-answers.ensures c.index-answers-number.is
    c.as_ref-answer.ensures.value in
    subst After (sym c.in_ok-push.ensures.items)
    (next_report all number c.loop-number.reports.items report c.loop-number.invariant
    (subst (λ answer. IsReport all.file (goal_at all.file number) answer report) read c.in_ok-report.ensures))

-- all goals have theirs
pub returns : goal.returns
returns c =
    let all = c.args.all.now in
    let end : c.loop-number.number ≡ length all.file.goals = search rules in
    all_reported all c.loop-number.number c.loop-number.reports.items end c.loop-number.invariant
