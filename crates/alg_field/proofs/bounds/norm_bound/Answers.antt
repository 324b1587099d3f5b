use Rattle.std.proofs.Common.{arith, ◌≡◌, ◌+◌, ◌*◌, ◌^◌, ◌<◌, ◌∙◌, ap, subst, drop, refl}
use Rattle.alg_mono.specs.Polynomials.{MAX, norm}
use Rattle.alg_reify.specs.FactorMaps.{norms}
use Rattle.alg_field.proofs.Measures.{norm_turn, product_some, power_some, each_some, each_factor}
use Rattle.alg_field.proofs.bounds.norm_bound.Goals as goal

pub loop-factor-init : goal.loop-factor-init
loop-factor-init c =
    let list = c.args.list.now in
    (refl, c.requires.start.0, c.requires.start.1, each_some list (each_factor list c.requires.list))

-- the bound is too great already, and the rest makes it no smaller
pub returns-in-None : goal.returns-in-None
returns-in-None c =
    let x = c.factor-item.result in
    let inv = c.loop-factor.invariant in
    let out = c.loop-factor.out in
    let turn = norm_turn c.args.list.now c.loop-factor.factor-index x x out _ (omega arith) c.factor-item.is inv.3
    inv.0 in
    let over : MAX < out * norm x.0 ^ x.1 = subst (λ n. MAX < out * n ^ x.1) c.size.ensures.sum c.in-None.ensures in
    omega (arith, over, turn.3)

-- one factor more
pub loop-factor-preserved : goal.loop-factor-preserved
loop-factor-preserved c =
    let x = c.factor-item.result in
    let inv = c.loop-factor.invariant in
    let out = c.loop-factor.out in
    let turn = norm_turn c.args.list.now c.loop-factor.factor-index x x out _ (omega arith) c.factor-item.is inv.3
    inv.0 in
    let is : c.in-Some.n ≡ out * norm x.0 ^ x.1 = c.in-Some.ensures.0 ∙ ap (λ n. out * n ^ x.1) c.size.ensures.sum in
    let some = product_some out (norm x.0 ^ x.1) inv.1 (power_some (norm x.0) x.1 turn.1) in (
      ap (λ n. n * norms (drop (c.loop-factor.factor-index + 1) c.args.list.now)) is ∙ turn.0,
      omega (arith, is, some),
      c.in-Some.ensures.1,
      turn.2,
    )
