use Rattle.std.specs.Ordering.{nat_cmp}
use Rattle.std.specs.Cmp.{nat_cmp_total}
use Rattle.std.specs.FinMap.{nat_cmp-IsAntisymmetric}
use Rattle.std.proofs.Common.{◌≡◌, ◌+◌, ◌≤◌, rules, subst, sym}
use Rattle.alg_mono.specs.FiniteMaps.{IsCanonical}
use Rattle.alg_mono.specs.Numbers.{integers}
use Rattle.alg_mono.specs.Polynomials.{IsPoly, MAX, norm}
use Rattle.alg_mono.proofs.Closure.{IsPoly-plus}
use Rattle.alg_mono.specs.NumberedPolynomials.{before, sum_of}
use Rattle.alg_poly.proofs.poly.Poly.add.Goals as goal

-- both lists fall, and their sum is within the limits
pub merge-requires-clause-falls_a : goal.merge-requires-clause-falls_a
merge-requires-clause-falls_a c =
    subst (IsCanonical before integers.amounts) (sym c.deref-3.ensures.value) c.self.invariant.polynomial.canonical

pub merge-requires-clause-falls_b : goal.merge-requires-clause-falls_b
merge-requires-clause-falls_b c =
    subst (IsCanonical before integers.amounts) (sym c.deref-4.ensures.value) c.other.invariant.polynomial.canonical

pub invariant_of-result : goal.invariant_of-result
invariant_of-result c =
    let p = c.self.inside.terms.items in
    let q = c.other.inside.terms.items in
    let is : c.in_ok-terms.terms.items ≡ sum_of p q =
    cc (c.in_ok-terms.ensures, c.deref-3.ensures.value, c.deref-4.ensures.value) in
    let fits : norm p + norm q ≤ MAX = search rules in
    subst (IsPoly nat_cmp) (sym is)
    (IsPoly-plus nat_cmp_total nat_cmp-IsAntisymmetric p q c.self.invariant c.other.invariant fits)
