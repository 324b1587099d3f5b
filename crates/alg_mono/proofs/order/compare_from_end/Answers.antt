use Rattle.std.proofs.Common.{◌≡◌, ◌⊎◌, inl, inr, ◌∙◌, arith}
use Rattle.std.specs.Ordering.{nat_cmp}
use Rattle.alg_mono.specs.Monomials.{entry_cmp}
use Rattle.alg_mono.proofs.EmptyLists.{lengths_decide}
use Rattle.alg_mono.proofs.order.compare_from_end.Goals as goal
use Rattle.alg_mono.proofs.order.compare_from_end.Goals.{then-loop-i-test+else-j-gt0, else-loop-i-test}

pub returns : goal.returns
returns c =
    let none : (c.loop-i.i ≡ 0) ⊎ (c.loop-i.j ≡ 0) = elim c.loop-i-test.branch
    [ then-loop-i-test+else-j-gt0 w ↦ inr (omega arith) | else-loop-i-test w ↦ inl (omega arith) ] in
    c.cmp-2.ensures ∙ lengths_decide (entry_cmp nat_cmp) _ _ c.loop-i.i c.loop-i.j c.loop-i.invariant.in_a
    c.loop-i.invariant.in_b none ∙ c.loop-i.invariant.same
