use Rattle.std.proofs.Common.{◌≡◌, take}
use Rattle.std.specs.Ordering.{nat_cmp}
use Rattle.alg_mono.specs.FiniteMaps.{collect}
use Rattle.alg_mono.specs.Numbers.{exponents}
use Rattle.alg_mono.proofs.from_pairs.collected.Given as goal

-- what is out is the canonical list of the pairs so far
abbrev pub invariant-loop-atom : goal.invariant-loop-atom
invariant-loop-atom l = l.out.items ≡ collect nat_cmp exponents (take l.atom-index l.pairs)
