use Rattle.std.proofs.Common.{◌∙◌, sym, ap, arith, drop, ◌++◌, append_assoc, get_or, refl}
use Rattle.std.specs.Ordering.{nat_cmp}
use Rattle.std.specs.Cmp.{nat_cmp_total}
use Rattle.std.specs.FinMap.{nat_cmp-IsAntisymmetric}
use Rattle.alg_mono.proofs.Numbers.{exponent_laws}
use Rattle.alg_mono.proofs.MergeTurns.{takes_first, takes_second, takes_both, left_over, right_over, take_rest}
use Rattle.alg_mono.proofs.Sums.{sum_kept}
use Rattle.alg_mono.proofs.times.merge_pairs.Goals as goal
use Rattle.alg_mono.proofs.times.merge_pairs.Goals.{then-loop-i-test+else-j-b, else-loop-i-test}

-- a's pair comes first
pub loop-i-preserved-in-Less : goal.loop-i-preserved-in-Less
loop-i-preserved-in-Less c =
    let a = c.args.a.now in
    let b = c.args.b.now in
    let x = get_or a c.loop-i.i (0, 0) in
    let y = get_or b c.loop-i.j (0, 0) in
    record {
      in_a = omega arith;
      in_b = omega arith;
      so_far = rw c.in_ok-push-in-Less.ensures.items
          (takes_first exponent_laws nat_cmp_total nat_cmp-IsAntisymmetric a b c.loop-i.out.items c.loop-i.i
          c.loop-i.j x y (0, 0) (0, 0)
          c.requires.rises_a c.requires.rises_b (omega arith) (omega arith) refl refl (sym c.in-Less.ensures)
          ∙ c.loop-i.invariant.so_far);
    }

-- b's pair comes first
pub loop-i-preserved-in-Greater : goal.loop-i-preserved-in-Greater
loop-i-preserved-in-Greater c =
    let a = c.args.a.now in
    let b = c.args.b.now in
    let x = get_or a c.loop-i.i (0, 0) in
    let y = get_or b c.loop-i.j (0, 0) in
    record {
      in_a = omega arith;
      in_b = omega arith;
      so_far = rw c.in_ok-push-in-Greater.ensures.items
          (takes_second exponent_laws nat_cmp_total nat_cmp-IsAntisymmetric a b c.loop-i.out.items c.loop-i.i
          c.loop-i.j x y (0, 0) (0, 0)
          c.requires.rises_a c.requires.rises_b (omega arith) (omega arith) refl refl (sym c.in-Greater.ensures)
          ∙ c.loop-i.invariant.so_far);
    }

-- both have the atom
pub loop-i-preserved : goal.loop-i-preserved
loop-i-preserved c =
    let a = c.args.a.now in
    let b = c.args.b.now in
    let x = get_or a c.loop-i.i (0, 0) in
    let y = get_or b c.loop-i.j (0, 0) in
    record {
      in_a = omega arith;
      in_b = omega arith;
      so_far =
          rw (
            c.in_ok-push-in-Equal.ensures.items,
            ← sum_kept nat_cmp a c.loop-i.i y.1 (0, 0) (omega arith)
                c.requires.rises_a.no_none,
          )
          (takes_both exponent_laws nat_cmp_total nat_cmp-IsAntisymmetric a b c.loop-i.out.items c.loop-i.i c.loop-i.j
          x y (0, 0) (0, 0)
          c.requires.rises_a c.requires.rises_b (omega arith) (omega arith) refl refl (sym c.in-Equal.ensures)
          ∙ c.loop-i.invariant.so_far);
    }

-- one of the two is used up, and what is left of the other follows
pub returns : goal.returns
returns c =
    let a = c.args.a.now in
    let b = c.args.b.now in
    rw (
      c.in_ok-extend_from_slice-2.ensures.items,
      c.in_ok-extend_from_slice.ensures.items,
      take_rest a c.loop-i.i,
      take_rest b c.loop-i.j,
    )
    (append_assoc c.loop-i.out.items (drop c.loop-i.i a) (drop c.loop-i.j b)
    ∙ ap (λ r. c.loop-i.out.items ++ r) (sym (elim c.loop-i-test.branch [
      | then-loop-i-test+else-j-b w ↦
          left_over exponent_laws nat_cmp_total nat_cmp-IsAntisymmetric a b c.loop-i.i c.loop-i.j c.requires.rises_a
          (omega arith)
      | else-loop-i-test w ↦ right_over exponent_laws nat_cmp_total nat_cmp-IsAntisymmetric a b c.loop-i.i c.loop-i.j
          c.requires.rises_b (omega arith)
    ]))
    ∙ c.loop-i.invariant.so_far)
