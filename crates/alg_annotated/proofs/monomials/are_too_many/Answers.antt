use Rattle.std.proofs.Common.{◌∙◌, ap}
use Rattle.alg_annotated.specs.Monomials.{exponent_of}
use Rattle.alg_annotated.proofs.Factors.{over_with, left_with}
use Rattle.alg_annotated.proofs.monomials.are_too_many.Goals as goal

-- the factors up to this one are too many
pub returns-then-exponent-left : goal.returns-then-exponent-left
returns-then-exponent-left c =
    over_with c.args.factors.now c.loop-factor.factor-index c.factor-item.result c.loop-factor-test.true
    c.loop-factor.left c.exponent_of-exponent.result
    c.loop-factor.invariant (c.exponent_of-exponent.ensures ∙ ap exponent_of c.factor-item.is) c.if-exponent-left.true

pub loop-factor-preserved : goal.loop-factor-preserved
loop-factor-preserved c =
    left_with c.args.factors.now c.loop-factor.factor-index c.factor-item.result c.loop-factor-test.true
    c.loop-factor.left c.exponent_of-exponent.result
    c.loop-factor.invariant (c.exponent_of-exponent.ensures ∙ ap exponent_of c.factor-item.is) c.if-exponent-left.false
