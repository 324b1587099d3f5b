use Rattle.std.proofs.Common.{◌≡◌, ◌≤◌, ◌-◌, ◌+◌, length, drop, ◌++◌}
use Rattle.std.specs.Ordering.{nat_cmp}
use Rattle.alg_mono.specs.Monomials.{mono_times}
use Rattle.alg_mono.proofs.times.merge_pairs.Given as goal

-- what is out, before the product of what is left, is the product of all
abbrev pub invariant-loop-i : goal.invariant-loop-i
invariant-loop-i l = record {
  in_a : l.i ≤ length l.a;
  in_b : l.j ≤ length l.b;
  so_far : l.out.items ++ mono_times nat_cmp (drop l.i l.a) (drop l.j l.b) ≡ mono_times nat_cmp l.a l.b;
}

abbrev pub decreases-loop-i : goal.decreases-loop-i
decreases-loop-i l = (length l.a + length l.b) - (l.i + l.j)
