use Rattle.std.specs.Prelude.{◌≡◌, ◌≢◌, ◌+◌, ◌*◌, ◌≤◌, pos, unsigned_abs}
use Rattle.std.proofs.Common.{rules, subst, sym, ap, ◌∙◌}
use mir.Syntax.{w128}
use mir.Val.{SFits, of_z}
use Rattle.std.specs.Ordering.{nat_cmp}
use Rattle.std.proofs.lemmas.Int.{to_z-of_z}
use Rattle.alg_mono.specs.Monomials.{MAX_DEGREE, degree}
use Rattle.alg_mono.specs.Polynomials.{IsPoly, MAX, norm, poly_degree}
use Rattle.alg_mono.specs.NumberedPolynomials.{row_of, multiple_of}
use Rattle.alg_poly.proofs.Multiples.{IsPoly-multiple}
use Rattle.alg_poly.proofs.Zeros.{multiple_is_row}
use Rattle.alg_poly.proofs.poly.Poly.scale.Goals as goal

-- the row is the multiple, since c is not 0
pub invariant_of-result : goal.invariant_of-result
invariant_of-result c =
    let p = c.self.inside.terms.items in
    let m = c.args.m.now in
    let fits : SFits w128 c.args.c = search rules in
    let some : c.args.c ≢ pos 0 = λ e. c.if-c-eq0.false (ap (of_z w128) e) in
    let is : c.in_ok-terms.terms.items ≡ multiple_of c.args.c m p =
    (simp to_z-of_z at c.in_ok-terms.ensures) ∙ ap (row_of m c.args.c) c.deref-2.ensures.value
    ∙ sym (multiple_is_row c.args.c m p some c.self.invariant.polynomial) in
    let norms : unsigned_abs c.args.c * norm p ≤ MAX = search rules in
    let degrees : degree m + poly_degree p ≤ MAX_DEGREE = search rules in
    subst (IsPoly nat_cmp) (sym is) (IsPoly-multiple c.args.c m p norms degrees)

pub returns-clause-multiple : goal.returns-clause-multiple
returns-clause-multiple c =
    let p = c.self.inside.terms.items in
    let m = c.args.m.now in
    let fits : SFits w128 c.args.c = search rules in
    let some : c.args.c ≢ pos 0 = λ e. c.if-c-eq0.false (ap (of_z w128) e) in
    (simp to_z-of_z at c.in_ok-terms.ensures) ∙ ap (row_of m c.args.c) c.deref-2.ensures.value
    ∙ sym (multiple_is_row c.args.c m p some c.self.invariant.polynomial)
    ∙ ap (multiple_of c.args.c m) c.self.view_is
