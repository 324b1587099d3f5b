use Rattle.std.proofs.Common.{◌≡◌, ◌≤◌, length, take, reverse}
use Rattle.std.specs.Ordering.{nat_cmp}
use Rattle.std.specs.Cmp.Lexicographic.{slice_cmp}
use Rattle.alg_mono.specs.Monomials.{entry_cmp}
use Rattle.alg_mono.proofs.order.compare_from_end.Given as goal

abbrev pub invariant-loop-i : goal.invariant-loop-i
invariant-loop-i l = record {
  in_a : l.i ≤ length l.a;
  in_b : l.j ≤ length l.b;
  same : slice_cmp (entry_cmp nat_cmp) (reverse (take l.i l.a)) (reverse (take l.j l.b)) ≡
      slice_cmp (entry_cmp nat_cmp) (reverse l.a) (reverse l.b);
}

abbrev pub decreases-loop-i : goal.decreases-loop-i
decreases-loop-i l = l.i
