use Rattle.std.proofs.Common.{◌∙◌, sym, ap, subst}
use Rattle.alg_reify.specs.FactorMaps.{lacks, map_of}
use Rattle.alg_field.specs.Lists.{beyond, IsList}
use Rattle.alg_field.proofs.Beyond.{map-beyond, IsList-beyond}
use Rattle.alg_field.proofs.factors.Factors.lacks.Goals as goal

-- what is beyond is a list
pub invariant_of-result : goal.invariant_of-result
invariant_of-result c =
    let a = c.self.inside.list.items in
    let b = c.other.inside.list.items in
    subst IsList
    (sym (c.in_ok-list.ensures ∙ (λ i. beyond (c.deref.ensures.value i) (c.deref-2.ensures.value i))))
    (IsList-beyond a b c.other.invariant)

-- its map is what the one map lacks of the other
pub returns : goal.returns
returns c =
    let a = c.self.inside.list.items in
    let b = c.other.inside.list.items in
    ap map_of (c.in_ok-list.ensures ∙ (λ i. beyond (c.deref.ensures.value i) (c.deref-2.ensures.value i)))
    ∙ map-beyond a b c.other.invariant
    ∙ (λ i. lacks (c.self.view_is i) (c.other.view_is i))
