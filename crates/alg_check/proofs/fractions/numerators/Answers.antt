use Rattle.alg_mono.specs.NumberedPolynomials.{Polynomial, product_of}
use Rattle.alg_meaning.specs.FractionRules.{worse, over_outcome}
use Rattle.alg_reify.specs.FactorMaps.{FactorMap, product}
use Rattle.alg_reify.specs.Making.{Gives}
use Rattle.alg_reify.proofs.Giving.{subst_both}
use Rattle.alg_check.proofs.FactorCounts.{lacks_from}
use Rattle.alg_check.proofs.fractions.numerators.Goals as goal

-- each numerator times what its fraction lacks
pub returns : goal.returns
returns c =
    let a = c.args.left in
    let b = c.args.right in
    let P : FactorMap → FactorMap → Type 0 = λ l r. Gives (λ (n : Polynomial × Polynomial). n)
    (product_of a.top (product l), product_of b.top (product r)) (worse (over_outcome a.top l) (over_outcome b.top r))
    c.cleared.result in
    subst_both P
    (lacks_from a.below.items b.below.items c.deref.result.now c.deref-2.result.now c.in_ok-own.own.items
    c.deref-5.result.now c.deref.ensures.value c.deref-2.ensures.value c.deref-5.ensures.value c.in_ok-own.ensures)
    (lacks_from b.below.items a.below.items c.deref-3.result.now c.deref-4.result.now c.in_ok-others.others.items
    c.deref-6.result.now c.deref-3.ensures.value c.deref-4.ensures.value c.deref-6.ensures.value
    c.in_ok-others.ensures)
    c.cleared.ensures
