use Rattle.std.proofs.Common.{◌≡◌, take, map}
use Rattle.alg_groebner.specs.Pruning.{renumbered_step}
use Rattle.alg_groebner.proofs.pruning.renumber_steps.Given as goal

abbrev pub invariant-loop-step : goal.invariant-loop-step
invariant-loop-step l = l.out.items ≡ map (renumbered_step l.numbers) (take l.step-index l.steps)
