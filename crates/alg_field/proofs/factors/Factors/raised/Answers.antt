use Rattle.std.proofs.Common.{◌∙◌, sym, subst, ap}
use Rattle.alg_meaning.specs.FractionRules.{below_outcome}
use Rattle.alg_reify.specs.FactorMaps.{power_map, map_of}
use Rattle.alg_field.specs.Lists.{IsList}
use Rattle.alg_field.proofs.MapRules.{power_within}
use Rattle.alg_field.proofs.Scaling.{map-scaled, IsList-scaled}
use Rattle.alg_field.proofs.factors.Factors.raised.Goals as goal

-- the exponents stay within the limit
pub scale-requires : goal.scale-requires
scale-requires c =
    power_within c.args.n c.self.inside.list.items c.self.invariant
    (ap (λ m. below_outcome (power_map m c.args.n)) c.self.view_is ∙ c.requires)

pub invariant_of-result : goal.invariant_of-result
invariant_of-result c =
    let a = c.self.inside.list.items in
    subst IsList (sym c.scale.ensures)
    (IsList-scaled c.args.n a
    (power_within c.args.n a c.self.invariant
    (ap (λ m. below_outcome (power_map m c.args.n)) c.self.view_is ∙ c.requires)) c.self.invariant)

pub returns : goal.returns
returns c =
    ap map_of c.scale.ensures ∙ map-scaled c.args.n c.self.inside.list.items
    ∙ ap (λ m. power_map m c.args.n) c.self.view_is
