use Rattle.std.proofs.Common.{◌∙◌, sym, ap}
use Rattle.alg_meaning.specs.FractionRules.{over_outcome}
use Rattle.alg_reify.specs.FactorMaps.{FactorMap}
use Rattle.alg_reify.proofs.FactorLists.{over-map_of}
use Rattle.alg_field.proofs.factors.Factors.rule_over.Goals as goal

-- the list breaks the rule that its map breaks
pub returns : goal.returns
returns c =
    let p = c.args.top.now in
    c.over_rule.ensures ∙ ap (λ (m : FactorMap). over_outcome p m) c.deref.ensures.value
    ∙ sym (over-map_of p c.self.inside.list.items) ∙ ap (λ (m : FactorMap). over_outcome p m) c.self.view_is
