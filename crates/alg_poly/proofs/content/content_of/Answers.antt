use Rattle.std.specs.Prelude.{◌≡◌, unsigned_abs}
use Rattle.std.proofs.Common.{rules, arith, subst, take}
use Rattle.std.specs.Int.{IsGcd}
use mir.Syntax.{w128}
use mir.Val.{SFits}
use Rattle.alg_poly.specs.Divisors.{IsContent}
use Rattle.alg_poly.proofs.Contents.{content_more, content_one}
use Rattle.alg_poly.proofs.content.content_of.Goals as goal

pub loop-term-preserved : goal.loop-term-preserved
loop-term-preserved c =
    let x = c.term-item.result in
    let fits : SFits w128 x.1 = search rules in
    let magnitude : c.unsigned_abs.result ≡ unsigned_abs x.1 = search rules in
    let divisor = subst (λ n. IsGcd c.loop-term.divisor n c.greatest_divisor-divisor.result) magnitude
    c.greatest_divisor-divisor.ensures in
    content_more c.args.terms.now c.loop-term.term-index x c.loop-term.divisor c.greatest_divisor-divisor.result
    (omega arith) c.term-item.is c.loop-term.invariant divisor

pub returns-then-divisor-eq1 : goal.returns-then-divisor-eq1
returns-then-divisor-eq1 c =
    content_one c.args.terms.now c.loop-term.term-index
    (subst (IsContent (take c.loop-term.term-index c.args.terms.now)) c.if-divisor-eq1.true c.loop-term.invariant)
