use Rattle.std.proofs.Common.{◌≡◌, ◌++◌, drop}
use Rattle.std.specs.Ordering.{nat_cmp}
use Rattle.alg_mono.specs.Monomials.{mono_over}
use Rattle.alg_mono.proofs.division.pairs_beyond.Given as goal

-- what is out, before what is left over the other, is all over the other
abbrev pub invariant-loop-atom : goal.invariant-loop-atom
invariant-loop-atom l =
    l.out.items ++ mono_over nat_cmp (drop l.atom-index l.pairs) l.other ≡ mono_over nat_cmp l.pairs l.other
