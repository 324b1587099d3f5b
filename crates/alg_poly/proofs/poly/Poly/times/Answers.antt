use Rattle.std.specs.Prelude.{◌≡◌, ◌+◌, ◌*◌, ◌≤◌, []}
use Rattle.std.proofs.Common.{rules, arith, subst, sym, ap, ◌∙◌}
use Rattle.std.proofs.lemmas.Grind.{common_steps}
use Rattle.std.specs.Ordering.{nat_cmp}
use Rattle.std.specs.Cmp.{nat_cmp_total}
use Rattle.std.specs.FinMap.{nat_cmp-IsAntisymmetric}
use Rattle.alg_mono.specs.Monomials.{MAX_DEGREE}
use Rattle.alg_mono.specs.Polynomials.{IsPoly, MAX, norm, poly_degree}
use Rattle.alg_mono.proofs.Closure.{IsPoly-times}
use Rattle.alg_mono.specs.NumberedPolynomials.{Polynomial, product_of}
use Rattle.alg_poly.proofs.Zeros.{product_with_zero}
use Rattle.alg_poly.proofs.poly.Poly.times.Goals as goal
use Rattle.alg_poly.proofs.poly.Poly.times.Goals.{then-is_empty-via-then-is_empty, then-is_empty-via-else-is_empty+then-is_empty-2}

-- a factor is zero
pub returns-then-is_empty-clause-product : goal.returns-then-is_empty-clause-product
returns-then-is_empty-clause-product c =
    let p = c.args.self.now in
    let q = c.args.other.now in
    elim c.then-is_empty.branch [
      | then-is_empty-via-then-is_empty w ↦
          let none : c.self.inside.terms.items ≡ [] = let h = w.if-is_empty.ensures in grind (arith, common_steps) in
          c.zero.ensures ∙ ap (λ (r : Polynomial). product_of r q) (sym none ∙ c.self.view_is)
      | then-is_empty-via-else-is_empty+then-is_empty-2 w ↦
          let none : c.other.inside.terms.items ≡ [] = let h = w.if-is_empty-2.ensures in grind (arith, common_steps) in
          c.zero.ensures ∙ sym (product_with_zero p) ∙ ap (product_of p) (sym none ∙ c.other.view_is)
    ]

pub invariant_of-result : goal.invariant_of-result
invariant_of-result c =
    let p = c.self.inside.terms.items in
    let q = c.other.inside.terms.items in
    let is : c.in_ok-terms.terms.items ≡ product_of p q =
    cc (c.in_ok-terms.ensures, c.deref-3.ensures.value, c.deref-4.ensures.value) in
    let norms : norm p * norm q ≤ MAX = search rules in
    let degrees : poly_degree p + poly_degree q ≤ MAX_DEGREE = search rules in
    subst (IsPoly nat_cmp) (sym is)
    (IsPoly-times nat_cmp_total nat_cmp-IsAntisymmetric p q c.self.invariant c.other.invariant norms degrees)
