use Rattle.std.proofs.Common.{[], ◌∷◌}
use Rattle.alg_mono.specs.NumberedPolynomials.{Polynomial, product_of}
use Rattle.alg_mono.specs.Outcomes.{product_outcome}
use Rattle.alg_reify.proofs.Giving.{gives}
use Rattle.alg_field.proofs.fraction.Fraction.product.Goals as goal

pub returns : goal.returns
returns c =
    let a = c.args.self in
    let b = c.args.other in
    let product = product_of a.top b.top in
    let rule = product_outcome (a.top ∷ b.top ∷ []) in
    let top = c.product-top in
    c.over_both.ensures.made product rule
    (gives (λ (q : Polynomial). q) product rule top.result top.ensures.product top.ensures.fine top.ensures.refused)
