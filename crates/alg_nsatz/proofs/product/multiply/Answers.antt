use Rattle.std.proofs.Common.{arith, ◌∙◌, refl}
use Rattle.alg_mono.specs.Polynomials.{norm}
use Rattle.alg_reify.proofs.ProductTurns.{norms_over, norms_left, each_turn, norms_next, degrees_next}
use Rattle.alg_nsatz.proofs.product.multiply.Goals as goal

pub times-requires-clause-norms : goal.times-requires-clause-norms
times-requires-clause-norms c =
    let x = c.p-item.result in
    let inv = c.loop-p.invariant in
    let small = inv.norms in
    omega (
      arith,
      small,
      norms_over c.args.rest.now c.loop-p.p-index x x (omega arith) c.p-item.is (norm c.loop-p.out) _ refl inv.some,
    )

-- one factor more
pub loop-p-preserved : goal.loop-p-preserved
loop-p-preserved c =
    let x = c.p-item.result in
    let inv = c.loop-p.invariant in
    let i = c.loop-p.p-index in
    let rest = c.args.rest.now in
    let out = c.loop-p.out in
    let next = c.in_ok-out.out in
    record {
      product = each_turn rest i x x (omega arith) c.p-item.is out next c.in_ok-out.ensures ∙ inv.product;
      some = norms_left rest i x x (omega arith) c.p-item.is inv.some;
      norms = norms_next rest i x x (omega arith) c.p-item.is out next c.in_ok-out.ensures inv.norms;
      degrees = degrees_next rest i x x (omega arith) c.p-item.is out next c.in_ok-out.ensures inv.degrees;
    }
