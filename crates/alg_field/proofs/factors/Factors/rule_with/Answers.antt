use Rattle.std.proofs.Common.{◌∙◌, ◌+◌, ◌*◌, sym, subst}
use Rattle.alg_mono.specs.FiniteMaps.{IsCanonical}
use Rattle.alg_mono.specs.Numbers.{exponents}
use Rattle.alg_mono.proofs.Canonical.{IsCanonical-collect}
use Rattle.alg_mono.proofs.Numbers.{exponent_laws}
use Rattle.alg_mono.specs.Outcomes.{outcome}
use Rattle.alg_meaning.specs.FractionRules.{below_outcome}
use Rattle.alg_reify.specs.FactorMaps.{order, times_map, norms, degrees}
use Rattle.alg_reify.proofs.FactorOrder.{order_total, order_anti}
use Rattle.alg_field.proofs.MapRules.{below-times}
use Rattle.alg_field.proofs.factors.Factors.rule_with.Goals as goal

-- the norms of both multiply and their degrees add up
pub returns-clause-rule : goal.returns-clause-rule
returns-clause-rule c =
    let a = c.deref.ensures.value in
    let b = c.deref-2.ensures.value in
    c.joined_rule.ensures ∙ (λ i. outcome (norms (a i) * norms (b i)) (degrees (a i) + degrees (b i)))
    ∙ sym (below-times c.self.inside.list.items c.other.inside.list.items c.self.invariant c.other.invariant)
    ∙ (λ i. below_outcome (times_map (c.self.view_is i) (c.other.view_is i)))

-- the map is collected
pub returns-clause-canonical : goal.returns-clause-canonical
returns-clause-canonical c =
    subst (IsCanonical order exponents) c.self.view_is
    (IsCanonical-collect exponent_laws order_total order_anti c.self.inside.list.items)
