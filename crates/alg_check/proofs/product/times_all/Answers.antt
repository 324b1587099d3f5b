use Rattle.std.proofs.Common.{arith, ◌∙◌, refl}
use Rattle.alg_mono.specs.Polynomials.{norm}
use Rattle.alg_reify.proofs.ProductTurns.{norms_over, norms_left, each_turn, norms_next, degrees_next, degrees_from}
use Rattle.alg_check.proofs.product.times_all.Goals as goal

pub times-requires-clause-norms : goal.times-requires-clause-norms
times-requires-clause-norms c =
    let x = c.factor-item.result in
    let inv = c.loop-factor.invariant in
    let small = inv.norms in
    omega (
      arith,
      small,
      norms_over c.args.rest.now c.loop-factor.factor-index x x (omega arith) c.factor-item.is (norm
          c.loop-factor.product)
          _ refl inv.some,
    )

pub times-requires-clause-degrees : goal.times-requires-clause-degrees
times-requires-clause-degrees c =
    let x = c.factor-item.result in
    let low = c.loop-factor.invariant.degrees in
    omega (
      arith,
      low,
      degrees_from c.args.rest.now c.loop-factor.factor-index x x (omega arith) c.factor-item.is,
    )

-- one factor more
pub loop-factor-preserved : goal.loop-factor-preserved
loop-factor-preserved c =
    let x = c.factor-item.result in
    let inv = c.loop-factor.invariant in
    let i = c.loop-factor.factor-index in
    let rest = c.args.rest.now in
    let out = c.loop-factor.product in
    let next = c.in_ok-product.product in
    record {
      product = each_turn rest i x x (omega arith) c.factor-item.is out next c.in_ok-product.ensures ∙ inv.product;
      some = norms_left rest i x x (omega arith) c.factor-item.is inv.some;
      norms = norms_next rest i x x (omega arith) c.factor-item.is out next c.in_ok-product.ensures inv.norms;
      degrees = degrees_next rest i x x (omega arith) c.factor-item.is out next c.in_ok-product.ensures inv.degrees;
    }
