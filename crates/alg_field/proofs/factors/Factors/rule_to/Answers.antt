use Rattle.std.proofs.Common.{◌∙◌, ◌*◌, ◌^◌, sym}
use Rattle.alg_mono.specs.Outcomes.{outcome}
use Rattle.alg_meaning.specs.FractionRules.{below_outcome}
use Rattle.alg_reify.specs.FactorMaps.{power_map, norms, degrees}
use Rattle.alg_field.proofs.MapRules.{below-power}
use Rattle.alg_field.proofs.factors.Factors.rule_to.Goals as goal

-- the norms to that power, and the degrees as often
pub returns : goal.returns
returns c =
    let a = c.deref.ensures.value in
    let n = c.args.n in
    c.power_rule.ensures ∙ (λ i. outcome (norms (a i) ^ n) (n * degrees (a i)))
    ∙ sym (below-power n c.self.inside.list.items c.self.invariant)
    ∙ (λ i. below_outcome (power_map (c.self.view_is i) n))
