use Rattle.std.proofs.Common.{◌≡◌, drop}
use Rattle.alg_groebner.specs.Work.{member_reducible}
use Rattle.alg_groebner.proofs.machine.reducible.Given as goal

abbrev pub invariant-loop-remainder : goal.invariant-loop-remainder
invariant-loop-remainder l =
    (l.place ≡ l.remainder-index)
    × (member_reducible l.basis l.place (drop l.remainder-index l.remainders) ≡ member_reducible l.basis 0 l.remainders)
