use Rattle.std.proofs.Common.{◌≡◌, ◌∙◌, ◌+◌, IfErr, sym, ap, subst}
use Rattle.std.specs.Ordering.{nat_cmp}
use Rattle.std.specs.Cmp.{nat_cmp_total}
use Rattle.std.specs.FinMap.{nat_cmp-IsAntisymmetric}
use Rattle.alg_mono.specs.Monomials.{IsMono, degree, mono_over, lcm}
use Rattle.alg_mono.specs.Refusals.{IsOverDegreeLimit}
use Rattle.alg_mono.proofs.Monomials.{degree-mono_times}
use Rattle.alg_mono.proofs.Lcm.{IsMono-mono_over}
use Rattle.alg_mono.proofs.mono.Mono.lcm.Goals as goal

-- what the other has beyond is a monomial
pub invariant_of-beyond : goal.invariant_of-beyond
invariant_of-beyond c =
    let a = c.args.self.now in
    let left = c.in_ok-pairs.ensures ∙ ap (λ m. mono_over nat_cmp m a) c.deref.ensures.value in
    subst (IsMono nat_cmp) (sym left)
    (IsMono-mono_over nat_cmp_total nat_cmp-IsAntisymmetric c.other.inside.pairs.items a c.other.invariant)

-- the degrees of the two factors add up to the degree of the multiple
pub returns-clause-refused : goal.returns-clause-refused
returns-clause-refused c =
    let a = c.args.self.now in
    let b = c.args.other.now in
    let left = c.in_ok-pairs.ensures ∙ ap (λ m. mono_over nat_cmp m a) (c.deref.ensures.value ∙ c.other.view_is) in
    let degrees : degree a + degree c.in_ok-pairs.pairs.items ≡ degree (lcm nat_cmp a b) =
    ap (λ m. degree a + degree m) left
    ∙ sym (degree-mono_times nat_cmp_total nat_cmp-IsAntisymmetric a (mono_over nat_cmp b a)) in
    subst (λ n. IfErr c.times.result (IsOverDegreeLimit n)) degrees c.times.ensures.refused
