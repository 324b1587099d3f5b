use Rattle.std.proofs.Common.{sym}
use Rattle.alg_mono.specs.NumberedPolynomials.{Polynomial}
use Rattle.alg_mono.specs.Outcomes.{Outcome}
use Rattle.alg_reify.specs.Making.{Gives}
use Rattle.alg_reify.proofs.Giving.{gives, subst_both}
use Rattle.alg_check.proofs.FactorCounts.{over_is, product_is}
use Rattle.alg_check.proofs.product.over.Goals as goal

pub returns : goal.returns
returns c =
    let p = c.args.top in
    let qs = c.args.factors.now in
    let P : Polynomial → Outcome → Type 0 = λ x o. Gives (λ (q : Polynomial). q) x o c.product.result in
    subst_both P (sym (product_is p qs c.terms.ensures.sound)) (sym (over_is p qs))
    (gives (λ (q : Polynomial). q) _ _ c.product.result c.product.ensures.product c.product.ensures.fine
    c.product.ensures.refused)
