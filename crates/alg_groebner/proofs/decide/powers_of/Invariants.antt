use Rattle.std.proofs.Common.{◌≡◌, ◌+◌, ◌-◌, ◌++◌}
use Rattle.alg_groebner.specs.Runs.{powers, powers_outcome}
use Rattle.alg_groebner.proofs.decide.powers_of.Given as goal

abbrev pub invariant-loop-r : goal.invariant-loop-r
invariant-loop-r l =
    (l.out.items ++ powers l.goal (l.r + 1) (l.power - l.r) ≡ powers l.goal 1 l.power)
    × (powers_outcome l.goal (l.r + 1) (l.power - l.r) ≡ powers_outcome l.goal 1 l.power)
