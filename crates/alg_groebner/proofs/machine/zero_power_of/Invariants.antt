use Rattle.std.proofs.Common.{◌≡◌, ◌+◌, drop}
use Rattle.std.specs.List.{position_from}
use Rattle.alg_mono.specs.Outcomes.{is_nothing}
use Rattle.alg_groebner.specs.declared.remainder.Remainder.{Remainder}
use Rattle.alg_groebner.proofs.machine.zero_power_of.Given as goal

abbrev pub invariant-loop-remainder : goal.invariant-loop-remainder
invariant-loop-remainder l =
    (l.power ≡ l.remainder-index + 1)
    × (position_from (λ (g : Remainder). is_nothing g.rest) l.power (drop l.remainder-index l.remainders)
    ≡ position_from (λ (g : Remainder). is_nothing g.rest) 1 l.remainders)
