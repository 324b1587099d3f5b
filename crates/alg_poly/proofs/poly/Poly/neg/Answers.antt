use Rattle.std.specs.Ordering.{nat_cmp}
use Rattle.std.specs.Cmp.{nat_cmp_total}
use Rattle.std.specs.FinMap.{nat_cmp-IsAntisymmetric}
use Rattle.std.proofs.Common.{subst, sym, ap, ◌∙◌}
use Rattle.alg_mono.specs.Polynomials.{IsPoly, poly_neg}
use Rattle.alg_mono.proofs.Closure.{IsPoly-neg}
use Rattle.alg_poly.proofs.poly.Poly.neg.Goals as goal

pub invariant_of-result : goal.invariant_of-result
invariant_of-result c =
    subst (IsPoly nat_cmp) (sym (c.in_ok-terms.ensures ∙ ap poly_neg c.deref.ensures.value))
    (IsPoly-neg nat_cmp_total nat_cmp-IsAntisymmetric c.self.inside.terms.items c.self.invariant)
