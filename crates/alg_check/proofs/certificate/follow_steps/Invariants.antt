use Rattle.std.proofs.Common.{◌≡◌, ◌+◌, ◌++◌, take}
use Rattle.alg_lines.specs.Accepting.{AreSteps}
use Rattle.alg_check.proofs.certificate.follow_steps.Given as goal

abbrev pub invariant-loop-step : goal.invariant-loop-step
invariant-loop-step l = record {
  number : l.number ≡ l.fn.lines + l.step-index;
  good : AreSteps (l.hyps ++ l.made) l.fn.first (take l.step-index l.steps) l.remainder;
}
