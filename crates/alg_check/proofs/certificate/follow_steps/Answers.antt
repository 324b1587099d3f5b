use Rattle.std.proofs.Common.{◌≡◌, ◌∷◌, ◌++◌, [], take, sym, subst, ◌∙◌, List, ℕ, ◌+◌, arith}
use Rattle.std.proofs.lemmas.List.{take_more}
use Rattle.alg_lines.specs.declared.cert.GoalStep.{GoalStep}
use Rattle.alg_lines.specs.Accepting.{AreSteps}
use Rattle.alg_lines.proofs.Following.{steps_more}
use Rattle.alg_check.specs.Checking.{IsNextRemainder, BreaksAtStep}
use Rattle.alg_check.proofs.Following.{breaks_at_step}
use Rattle.alg_check.proofs.certificate.follow_steps.Goals as goal

pub returns-in-None : goal.returns-in-None
returns-in-None c =
    let all = c.args.hyps.now ++ c.args.made.now in
    let steps = c.args.steps.now in
    let i = c.loop-step.step-index in
    let s = c.step-item.result in
    let bad = subst (IsNextRemainder all c.loop-step.remainder s) c.in-None.is c.in_ok-after.ensures in
    subst (λ (n : ℕ). BreaksAtStep all c.args.first steps c.args.lines (n + 1)) (sym c.loop-step.invariant.number)
    (breaks_at_step all c.args.first steps c.args.lines i s c.loop-step.remainder c.loop-step-test.true c.step-item.is
    c.loop-step.invariant.good bad)

pub loop-step-preserved : goal.loop-step-preserved
loop-step-preserved c =
    let all = c.args.hyps.now ++ c.args.made.now in
    let steps = c.args.steps.now in
    let i = c.loop-step.step-index in
    let s = c.step-item.result in
    let good = subst (IsNextRemainder all c.loop-step.remainder s) c.in-Some.is c.in_ok-after.ensures in
    let more = steps_more all c.args.first (take i steps) c.loop-step.remainder s c.in-Some.after
    c.loop-step.invariant.good good in
    let front : take (i + 1) steps ≡ take i steps ++ s ∷ [] =
    take_more steps i s c.loop-step-test.true ∙ (λ j. take i steps ++ sym c.step-item.is j ∷ []) in
    record {
      number = let n = c.loop-step.invariant.number in omega arith;
      good = subst (λ (ss : List GoalStep). AreSteps all c.args.first ss c.in-Some.after) (sym front) more;
    }
