use Rattle.std.proofs.Common.{◌≡◌, ◌+◌, ◌≤◌, subst, sym, rules}
use Rattle.std.specs.Ordering.{nat_cmp}
use Rattle.std.specs.Cmp.{nat_cmp_total}
use Rattle.std.specs.FinMap.{nat_cmp-IsAntisymmetric}
use Rattle.alg_mono.specs.Monomials.{MAX_DEGREE, IsMono, degree, mono_times}
use Rattle.alg_mono.proofs.Sums.{IsMono-mono_times}
use Rattle.alg_mono.proofs.mono.Mono.times.Goals as goal

-- a product within the limit is a monomial
pub invariant_of-result : goal.invariant_of-result
invariant_of-result c =
    let a = c.self.inside.pairs.items in
    let b = c.other.inside.pairs.items in
    let e : c.in_ok-pairs.pairs.items ≡ mono_times nat_cmp a b =
    cc (c.in_ok-pairs.ensures, c.deref.ensures.value, c.deref-2.ensures.value) in
    let h : degree a + degree b ≤ MAX_DEGREE = search rules in
    subst (IsMono nat_cmp) (sym e) (IsMono-mono_times nat_cmp_total nat_cmp-IsAntisymmetric a b h)
