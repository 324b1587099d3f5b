use Rattle.std.proofs.Common.{arith, ◌+◌, ◌*◌, ◌∙◌, ap, drop}
use Rattle.alg_mono.specs.Outcomes.{norm_product}
use Rattle.alg_reify.proofs.ProductTurns.{norms_turn, norms_over, norms_left}
use Rattle.alg_nsatz.proofs.product.norms_fit.Goals as goal

-- the bound is too great already, and what is left makes it no smaller
pub returns-in-None : goal.returns-in-None
returns-in-None c =
    let x = c.p-item.result in
    let inv = c.loop-p.invariant in
    let over = norms_over c.args.rest.now c.loop-p.p-index x x (omega arith) c.p-item.is c.loop-p.bound _ inv.0 inv.1 in
    ((λ h. absurd (cc)), (λ h. absurd (omega (arith, c.in-None.ensures, over, h))))

-- one factor more
pub loop-p-preserved : goal.loop-p-preserved
loop-p-preserved c =
    let x = c.p-item.result in
    let inv = c.loop-p.invariant in
    let i = c.loop-p.p-index in
    let rest = c.args.rest.now in (
      ap (λ n. n * norm_product (drop (i + 1) rest)) c.in-Some.ensures.0
          ∙ norms_turn rest i x x (omega arith) c.p-item.is c.loop-p.bound _ inv.0,
      norms_left rest i x x (omega arith) c.p-item.is inv.1,
      c.in-Some.ensures.1,
    )
