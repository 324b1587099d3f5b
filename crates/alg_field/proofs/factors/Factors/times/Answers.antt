use Rattle.std.proofs.Common.{◌≡◌, ◌∙◌, ◌+◌, ◌≤◌, sym, subst, ap}
use Rattle.alg_meaning.specs.FractionRules.{below_outcome}
use Rattle.alg_reify.specs.FactorMaps.{FactorMap, exponent_of, times_map, map_of}
use Rattle.alg_field.specs.Lists.{IsList, MAX_POWER, put_all}
use Rattle.alg_field.proofs.MapRules.{times_within}
use Rattle.alg_field.proofs.Puts.{map-put_all, IsList-put_all}
use Rattle.alg_field.proofs.factors.Factors.times.Goals as goal

-- the exponents stay within the limit
pub put_factors-requires-clause-within : goal.put_factors-requires-clause-within
put_factors-requires-clause-within c q =
    let a = c.self.inside.list.items in
    subst (λ (l : FactorMap). exponent_of q a + exponent_of q l ≤ MAX_POWER) (sym c.deref.ensures.value)
    (times_within a c.other.inside.list.items c.self.invariant c.other.invariant
    ((λ i. below_outcome (times_map (c.self.view_is i) (c.other.view_is i))) ∙ c.requires) q)

pub invariant_of-result : goal.invariant_of-result
invariant_of-result c =
    let a = c.self.inside.list.items in
    let b = c.other.inside.list.items in
    let made : c.put_factors.new.out.items ≡ put_all a b = c.in_ok-put_factors.ensures
    ∙ ap (λ l. put_all a l) c.deref.ensures.value in
    subst IsList (sym made)
    (IsList-put_all a b c.self.invariant c.other.invariant
    (times_within a b c.self.invariant c.other.invariant
    ((λ i. below_outcome (times_map (c.self.view_is i) (c.other.view_is i))) ∙ c.requires)))

-- the exponents add up
pub returns : goal.returns
returns c =
    let a = c.self.inside.list.items in
    let b = c.other.inside.list.items in
    ap map_of (c.in_ok-put_factors.ensures ∙ ap (λ l. put_all a l) c.deref.ensures.value) ∙ map-put_all a b
    ∙ (λ i. times_map (c.self.view_is i) (c.other.view_is i))
