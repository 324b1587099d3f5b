use Rattle.std.proofs.Common.{◌≡◌, drop, map}
use Rattle.alg_lines.specs.Constants.{added}
use Rattle.alg_lines.proofs.constants.add_factors.Given as goal

abbrev pub invariant-loop-step : goal.invariant-loop-step
invariant-loop-step l =
    added l.fn.set.keys (map (λ x. x.a) l.steps) ≡ added l.set.keys (map (λ x. x.a) (drop l.step-index l.steps))
