use Rattle.std.proofs.Common.{◌≡◌, drop}
use Rattle.alg_groebner.specs.Pruning.{mark_steps}
use Rattle.alg_groebner.proofs.pruning.mark_cited.Given as goal

abbrev pub invariant-loop-step : goal.invariant-loop-step
invariant-loop-step l = mark_steps (drop l.step-index l.steps) l.marks.items ≡ mark_steps l.steps l.initial.marks.items
