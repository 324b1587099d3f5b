use Rattle.alg_groebner.specs.Runs.{first_state}
use Rattle.alg_groebner.specs.Steps.{work_of}
use Rattle.alg_groebner.proofs.Running.{Reaches, work_left}
use Rattle.alg_groebner.proofs.run.run.Given as goal

abbrev pub invariant-loop-ending : goal.invariant-loop-ending
invariant-loop-ending l =
    Reaches l.hyps l.limit (first_state l.hyps l.initial.machine.remainders.items) (work_of l.machine)

abbrev pub decreases-loop-ending : goal.decreases-loop-ending
decreases-loop-ending l = work_left l.limit (work_of l.machine)
