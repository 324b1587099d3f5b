use Rattle.std.proofs.Common.{◌≡◌, ◌≤◌, ◌-◌, ◌+◌, length, drop, ◌++◌}
use Rattle.alg_mono.specs.NumberedPolynomials.{sum_of}
use Rattle.alg_mono.proofs.terms.merge.Given as goal

abbrev pub invariant-loop-i : goal.invariant-loop-i
invariant-loop-i l = record {
  in_a : l.i ≤ length l.a;
  in_b : l.j ≤ length l.b;
  so_far : l.out.items ++ sum_of (drop l.i l.a) (drop l.j l.b) ≡ sum_of l.a l.b;
}

abbrev pub decreases-loop-i : goal.decreases-loop-i
decreases-loop-i l = (length l.a + length l.b) - (l.i + l.j)
