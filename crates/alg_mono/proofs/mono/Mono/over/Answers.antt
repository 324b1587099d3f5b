use Rattle.std.proofs.Common.{◌∙◌, sym, ap, subst}
use Rattle.std.specs.Ordering.{nat_cmp}
use Rattle.std.specs.Cmp.{nat_cmp_total}
use Rattle.std.specs.FinMap.{nat_cmp-IsAntisymmetric}
use Rattle.alg_mono.specs.Monomials.{IsMono, mono_over, mono_times}
use Rattle.alg_mono.proofs.Lcm.{IsMono-mono_over, times_over}
use Rattle.alg_mono.proofs.mono.Mono.over.Goals as goal

-- what is left of a monomial is a monomial
pub invariant_of-result : goal.invariant_of-result
invariant_of-result c =
    let d = c.args.divisor.now in
    let left = c.in_ok-pairs.ensures ∙ ap (λ m. mono_over nat_cmp m d) c.deref.ensures.value in
    subst (IsMono nat_cmp) (sym left)
    (IsMono-mono_over nat_cmp_total nat_cmp-IsAntisymmetric c.self.inside.pairs.items d c.self.invariant)

-- the divisor divides, so nothing is lost
pub returns-clause-product : goal.returns-clause-product
returns-clause-product c =
    let m = c.args.self.now in
    let d = c.args.divisor.now in
    let left = c.in_ok-pairs.ensures ∙ ap (λ m. mono_over nat_cmp m d) (c.deref.ensures.value ∙ c.self.view_is) in
    ap (mono_times nat_cmp d) left
    ∙ times_over nat_cmp_total nat_cmp-IsAntisymmetric m d
    (subst (IsMono nat_cmp) c.self.view_is c.self.invariant).canonical c.requires
