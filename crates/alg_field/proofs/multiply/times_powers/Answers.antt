use Rattle.std.proofs.Common.{◌∙◌, ap, sym, arith}
use Rattle.alg_mono.specs.NumberedPolynomials.{product_of}
use Rattle.alg_reify.specs.FactorMaps.{product}
use Rattle.alg_field.proofs.Multiplied.{power_norm, power_degree, times_norm, times_degree, next_within, next_product, drop_end}
use Rattle.alg_field.proofs.multiply.times_powers.Goals as goal

pub power-requires-clause-norms : goal.power-requires-clause-norms
power-requires-clause-norms c =
    let x = c.factor-item.result in
    power_norm c.args.list.now c.loop-factor.factor-index x x c.loop-factor.out (omega arith) c.factor-item.is
    c.loop-factor.invariant.1

pub power-requires-clause-degrees : goal.power-requires-clause-degrees
power-requires-clause-degrees c =
    let x = c.factor-item.result in
    power_degree c.args.list.now c.loop-factor.factor-index x x c.loop-factor.out (omega arith) c.factor-item.is
    c.loop-factor.invariant.1

pub times-requires-clause-norms : goal.times-requires-clause-norms
times-requires-clause-norms c =
    let x = c.factor-item.result in
    times_norm c.args.list.now c.loop-factor.factor-index x x c.loop-factor.out (omega arith) c.factor-item.is
    c.loop-factor.invariant.1 c.in_ok-power.power c.in_ok-power.ensures

pub times-requires-clause-degrees : goal.times-requires-clause-degrees
times-requires-clause-degrees c =
    let x = c.factor-item.result in
    times_degree c.args.list.now c.loop-factor.factor-index x x c.loop-factor.out (omega arith) c.factor-item.is
    c.loop-factor.invariant.1 c.in_ok-power.power c.in_ok-power.ensures

-- one factor more
pub loop-factor-preserved : goal.loop-factor-preserved
loop-factor-preserved c =
    let x = c.factor-item.result in
    let list = c.args.list.now in
    let i = c.loop-factor.factor-index in
    let out = c.loop-factor.out in
    let inv = c.loop-factor.invariant in
    let r = c.in_ok-power.power in
    let made = c.in_ok-out.ensures in (
      next_product list i x x out (omega arith) c.factor-item.is inv.1 r c.in_ok-power.ensures c.in_ok-out.out made
          ∙ inv.0,
      next_within list i x x out (omega arith) c.factor-item.is inv.1 r c.in_ok-power.ensures c.in_ok-out.out made,
    )

-- nothing is left, and 1 changes nothing
pub returns : goal.returns
returns c =
    let out = c.loop-factor.out in
    let none = drop_end c.args.list.now c.loop-factor.factor-index (omega arith) in
    sym (c.loop-factor.invariant.1.times_one) ∙ sym (ap (λ l. product_of out (product l)) none)
    ∙ c.loop-factor.invariant.0
