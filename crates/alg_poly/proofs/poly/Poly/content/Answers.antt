use Rattle.std.specs.Prelude.{◌<◌, ◌^◌, ℤ, pos, ◌≤ℤ◌, unsigned_abs}
use Rattle.std.proofs.Common.{rules, arith, sym, subst}
use mir.Syntax.{w128}
use Rattle.std.proofs.lemmas.Int.{ints, to_z_pos}
use Rattle.alg_poly.specs.Divisors.{IsContent}
use Rattle.alg_mono.specs.NumberedPolynomials.{Polynomial}
use Rattle.alg_poly.proofs.Contents.{content_small, some_length}
use Rattle.alg_poly.proofs.poly.Poly.content.Goals as goal

-- where there is a term, the divisor is the content, it is positive, and it fits
divisor_is : (c : goal.After-content_of) →
    IsContent c.args.self.now c.content_of.result × (0 < c.content_of.result) × (c.content_of.result < 2 ^ 127)
divisor_is c =
    let g = c.content_of.result in
    let here = c.deref.ensures.value in
    let some = some_length _ _ _ _ c.deref.ensures.len here c.is_empty.ensures c.if-is_empty.false in
    let content = subst (λ (q : Polynomial). IsContent q g) here c.content_of.ensures in
    let small = content_small c.self.inside.terms.items g some c.self.invariant.polynomial.canonical content in
    let bounded = c.self.invariant.bounded in
    (subst (λ (q : Polynomial). IsContent q g) c.self.view_is content, small.0, omega arith)

pub overflow_cast-result : goal.overflow_cast-result
overflow_cast-result c = let fits = (divisor_is c).2 in search (rules, fits)

pub returns-clause-positive : goal.returns-clause-positive
returns-clause-positive c =
    let d = divisor_is c in
    let positive : pos 1 ≤ℤ pos c.content_of.result = let p = d.1 in omega (arith, ints) in
    subst (λ (z : ℤ). pos 1 ≤ℤ z) (sym (to_z_pos w128 c.content_of.result d.2)) positive

pub returns-clause-content : goal.returns-clause-content
returns-clause-content c _ =
    let d = divisor_is c in
    subst (λ (z : ℤ). IsContent c.args.self.now (unsigned_abs z)) (sym (to_z_pos w128 c.content_of.result d.2)) d.0
