use Rattle.std.proofs.Common.{◌≡◌, ◌∙◌, sym, ap, subst, IfOk}
use Rattle.alg_mono.specs.NumberedPolynomials.{Polynomial, product_of}
use Rattle.alg_meaning.specs.FractionRules.{over_outcome}
use Rattle.alg_reify.specs.FactorMaps.{FactorMap, product}
use Rattle.alg_reify.proofs.FactorLists.{over-map_of, product-map_of}
use Rattle.alg_field.proofs.factors.Factors.over.Goals as goal

pub multiplied-requires-clause-fine : goal.multiplied-requires-clause-fine
multiplied-requires-clause-fine c =
    let p = c.args.top in
    ap (λ (m : FactorMap). over_outcome p m) c.deref.ensures.value
    ∙ sym (over-map_of p c.self.inside.list.items) ∙ ap (λ (m : FactorMap). over_outcome p m) c.self.view_is
    ∙ c.requires

-- the product of the list is that of its map
pub returns : goal.returns
returns c =
    let p = c.args.top in
    subst (λ (q : Polynomial). IfOk c.multiplied.result (λ r. r ≡ product_of p q))
    (ap product c.deref.ensures.value ∙ sym (product-map_of c.self.inside.list.items) ∙ ap product c.self.view_is)
    c.multiplied.ensures
