use Rattle.std.proofs.Common.{◌∙◌, sym, ap, arith, drop, ◌++◌, append_assoc}
use Rattle.std.specs.Ordering.{ordering_reverse}
use Rattle.alg_mono.proofs.MergeTurns.{takes_first, takes_second, takes_both, left_over, right_over, take_rest}
use Rattle.alg_mono.proofs.Numbers.{integer_laws}
use Rattle.alg_mono.proofs.TermOrder.{before_total, before_anti}
use Rattle.alg_mono.proofs.TermBounds.{both_fit}
use Rattle.alg_mono.proofs.terms.merge.Goals as goal
use Rattle.alg_mono.proofs.terms.merge.Goals.{then-loop-i-test+else-j-b, else-loop-i-test}

pub loop-i-preserved-in-Greater : goal.loop-i-preserved-in-Greater
loop-i-preserved-in-Greater c =
    let x = c.index-a-i.result in
    let y = c.index-b-j.result in
    let first = before_total.antisymm x.0 y.0 ∙ ap ordering_reverse (sym c.in-Greater.ensures) in
    record {
      in_a = omega arith;
      in_b = omega arith;
      so_far = rw c.in_ok-push_copy-in-Greater.ensures
          (takes_first integer_laws.amounts before_total before_anti c.args.a.now c.args.b.now c.loop-i.out.items
          c.loop-i.i c.loop-i.j x y _ _ c.requires.falls_a c.requires.falls_b
          (omega arith) (omega arith) c.index-a-i.is c.index-b-j.is first
          ∙ c.loop-i.invariant.so_far);
    }

pub loop-i-preserved-in-Less : goal.loop-i-preserved-in-Less
loop-i-preserved-in-Less c =
    let x = c.index-a-i.result in
    let y = c.index-b-j.result in
    let second = before_total.antisymm x.0 y.0 ∙ ap ordering_reverse (sym c.in-Less.ensures) in
    record {
      in_a = omega arith;
      in_b = omega arith;
      so_far = rw c.in_ok-push_copy-in-Less.ensures
          (takes_second integer_laws.amounts before_total before_anti c.args.a.now c.args.b.now c.loop-i.out.items
          c.loop-i.i c.loop-i.j x y _ _ c.requires.falls_a c.requires.falls_b
          (omega arith) (omega arith) c.index-a-i.is c.index-b-j.is second
          ∙ c.loop-i.invariant.so_far);
    }

-- both have the monomial
pub loop-i-preserved : goal.loop-i-preserved
loop-i-preserved c =
    let x = c.index-a-i.result in
    let y = c.index-b-j.result in
    let tie = before_total.antisymm x.0 y.0 ∙ ap ordering_reverse (sym c.in-Equal.ensures) in
    record {
      in_a = omega arith;
      in_b = omega arith;
      so_far = rw c.in_ok-push_sum-in-Equal.ensures
          (takes_both integer_laws.amounts before_total before_anti c.args.a.now c.args.b.now c.loop-i.out.items
          c.loop-i.i c.loop-i.j x y _ _ c.requires.falls_a c.requires.falls_b
          (omega arith) (omega arith) c.index-a-i.is c.index-b-j.is tie
          ∙ c.loop-i.invariant.so_far);
    }

pub push_sum-requires : goal.push_sum-requires
push_sum-requires c =
    both_fit c.args.a.now c.args.b.now c.loop-i.i c.loop-i.j c.index-a-i.result c.index-b-j.result
    (omega arith) (omega arith) c.index-a-i.is c.index-b-j.is c.requires.fits

-- one list has ended, and the rest of the other follows
pub returns : goal.returns
returns c =
    let a = c.args.a.now in
    let b = c.args.b.now in
    let i = c.loop-i.i in
    let j = c.loop-i.j in
    let out = c.loop-i.out.items in
    rw (c.in_ok-push_copies-2.ensures, c.in_ok-push_copies.ensures, take_rest a i, take_rest b j)
    (append_assoc out (drop i a) (drop j b)
    ∙ ap (λ r. out ++ r) (sym (elim c.loop-i-test.branch [
      | then-loop-i-test+else-j-b w ↦
          left_over integer_laws.amounts before_total before_anti a b i j c.requires.falls_a (omega arith)
      | else-loop-i-test w ↦
          right_over integer_laws.amounts before_total before_anti a b i j c.requires.falls_b (omega arith)
    ]))
    ∙ c.loop-i.invariant.so_far)
