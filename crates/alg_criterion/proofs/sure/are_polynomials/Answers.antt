use Rattle.std.proofs.Common.{arith, subst}
use Rattle.std.specs.Prelude.{All}
use Rattle.std.specs.Ordering.{nat_cmp}
use Rattle.std.proofs.lemmas.List.{take_all}
use Rattle.alg_mono.specs.Polynomials.{IsPoly}
use Rattle.alg_criterion.proofs.Lists.{so_far}
use Rattle.alg_criterion.proofs.sure.are_polynomials.Goals as goal

pub loop-poly-preserved : goal.loop-poly-preserved
loop-poly-preserved c =
    so_far (λ p. IsPoly nat_cmp p) c.args.polys.now c.loop-poly.poly-index c.poly-item.result c.loop-poly-test.true
    c.poly-item.is c.loop-poly.invariant c.terms.ensures.sound

pub returns : goal.returns
returns c =
    let past = c.loop-poly-test.false in
    subst (All (λ p. IsPoly nat_cmp p)) (take_all c.loop-poly.poly-index c.args.polys.now (omega arith))
    c.loop-poly.invariant
