use Rattle.std.proofs.Common.{◌≡◌, ◌≤◌, ◌++◌, drop}
use Rattle.alg_groebner.specs.Pruning.{numbers_after}
use Rattle.alg_groebner.proofs.pruning.new_numbers.Given as goal

abbrev pub invariant-loop-marked : goal.invariant-loop-marked
invariant-loop-marked l =
    (l.last ≤ l.marked-index) × (l.numbers.items ++ numbers_after l.last (drop l.marked-index l.marks) ≡ numbers_after
    0 l.marks)
