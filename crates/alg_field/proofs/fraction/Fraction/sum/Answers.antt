use Rattle.alg_mono.specs.NumberedPolynomials.{sum_of, product_of}
use Rattle.alg_mono.specs.Outcomes.{first_breach, sum_outcome}
use Rattle.alg_meaning.specs.FractionRules.{worse, over_outcome, below_outcome}
use Rattle.alg_reify.specs.FactorMaps.{FactorMap, times_map, product}
use Rattle.alg_field.specs.Fractions.{MakesFraction}
use Rattle.alg_reify.proofs.Giving.{subst_both}
use Rattle.alg_field.proofs.fraction.Fraction.sum.Goals as goal

-- what was made with the factors that each lacks, over the common ones
pub returns : goal.returns
returns c =
    let a = c.args.self in
    let b = c.args.other in
    let P : FactorMap → FactorMap → Type 0 = λ l r.
    let first = product_of a.top (product l) in
    let second = product_of b.top (product r) in
    MakesFraction (record { top = sum_of first second; below = times_map a.below l })
    (worse (first_breach (worse (over_outcome a.top l) (over_outcome b.top r)) (sum_outcome first second))
    (below_outcome (times_map a.below l))) c.over_both.result in
    subst_both P c.in_ok-lacks.ensures.left c.in_ok-lacks.ensures.right
    (c.over_both.ensures.made _ _ c.added-top.ensures)
