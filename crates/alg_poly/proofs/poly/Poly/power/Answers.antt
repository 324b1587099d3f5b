use Rattle.std.specs.Prelude.{◌≡◌, ◌*◌, ◌^◌, ◌≤◌}
use Rattle.std.proofs.Common.{rules, subst, sym}
use Rattle.std.specs.Ordering.{nat_cmp}
use Rattle.std.specs.Cmp.{nat_cmp_total}
use Rattle.std.specs.FinMap.{nat_cmp-IsAntisymmetric}
use Rattle.alg_mono.specs.Monomials.{MAX_DEGREE}
use Rattle.alg_mono.specs.Polynomials.{IsPoly, MAX, norm, poly_degree}
use Rattle.alg_mono.proofs.Closure.{IsPoly-power}
use Rattle.alg_mono.specs.NumberedPolynomials.{power_of}
use Rattle.alg_poly.proofs.poly.Poly.power.Goals as goal

pub invariant_of-result : goal.invariant_of-result
invariant_of-result c =
    let p = c.self.inside.terms.items in
    let n = c.args.n in
    let is : c.in_ok-terms.terms.items ≡ power_of p n = search rules in
    let norms : norm p ^ n ≤ MAX = search rules in
    let degrees : n * poly_degree p ≤ MAX_DEGREE = search rules in
    subst (IsPoly nat_cmp) (sym is)
    (IsPoly-power nat_cmp_total nat_cmp-IsAntisymmetric p n c.self.invariant norms degrees)
