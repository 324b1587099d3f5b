use Rattle.alg_mono.specs.NumberedPolynomials.{sum_of}
use Rattle.alg_check.proofs.FactorCounts.{lacks_from}
use Rattle.alg_check.proofs.FractionSteps.{over_common}
use Rattle.alg_check.proofs.fractions.FractionFractionForm.sum.Goals as goal

-- what was made with the factors that each lacks, over the common ones
pub returns : goal.returns
returns c =
    let a = c.args.self in
    let b = c.args.other in
    let own = lacks_from a.below.items b.below.items c.deref.result.now c.deref-2.result.now c.in_ok-own.own.items in
    let first = own c.deref-5.result.now c.deref.ensures.value c.deref-2.ensures.value c.deref-5.ensures.value
    c.in_ok-own.ensures in
    let also = own c.deref-7.result.now c.deref.ensures.value c.deref-2.ensures.value c.deref-7.ensures.value
    c.in_ok-own.ensures in
    let second = lacks_from b.below.items a.below.items c.deref-3.result.now c.deref-4.result.now
    c.in_ok-others.others.items c.deref-6.result.now c.deref-3.ensures.value c.deref-4.ensures.value
    c.deref-6.ensures.value c.in_ok-others.ensures in
    over_common sum_of a b c.over_both.result c.deref-5.result.now c.deref-6.result.now c.deref-7.result.now first
    second also (c.over_both.ensures _ _ c.added-top.ensures)
