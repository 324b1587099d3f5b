use Rattle.std.proofs.Common.{◌∙◌, sym, ap, arith, rules, ◌++◌, ◌∷◌, [], ◌+◌, ◌<◌, subst}
use lib.IntN.{◌*ℤ◌}
use mir.Syntax.{w128}
use mir.Val.{SFits}
use Rattle.std.proofs.lemmas.Int.{to_z-of_z}
use Rattle.std.proofs.lemmas.List.{take_all}
use Rattle.std.specs.Ordering.{nat_cmp}
use Rattle.alg_mono.specs.Monomials.{degree, mono_times, MAX_DEGREE}
use Rattle.alg_mono.specs.Refusals.{IsOverDegreeLimit}
use Rattle.alg_mono.specs.Mono.{Monomial}
use Rattle.alg_mono.specs.NumberedPolynomials.{row_of}
use Rattle.alg_mono.proofs.Rows.{row_more, degree_small}
use Rattle.alg_poly.proofs.Turns.{product_fits}
use Rattle.alg_poly.proofs.product.row.Goals as goal

pub overflow_mul-c : goal.overflow_mul-c
overflow_mul-c c =
    let fc : SFits w128 c.args.c = search rules in
    let ft : SFits w128 c.term-item.result.1 = search rules in
    simp to_z-of_z (product_fits c.args.terms.now c.loop-term.term-index c.term-item.result c.args.c (omega arith)
    c.term-item.is c.requires.norms)

pub loop-term-preserved : goal.loop-term-preserved
loop-term-preserved c =
    let x = c.term-item.result in
    let m = c.args.m.now in
    let out = c.loop-term.out.items in
    let fc : SFits w128 c.args.c = search rules in
    let ft : SFits w128 x.1 = search rules in
    let fm : SFits w128 (c.args.c *ℤ x.1) =
    product_fits c.args.terms.now c.loop-term.term-index x c.args.c (omega arith) c.term-item.is c.requires.norms in
    let pushed = simp to_z-of_z at c.in_ok-push-in-Ok.ensures.items in
    let before = simp to_z-of_z at c.loop-term.invariant in
    simp to_z-of_z (pushed
    ∙ ap (λ (z : Monomial). out ++ (z, c.args.c *ℤ x.1) ∷ []) c.in-Ok.ensures.ok
    ∙ ap (λ r. r ++ (mono_times nat_cmp m x.0, c.args.c *ℤ x.1) ∷ []) before
    ∙ sym (row_more m c.args.c c.args.terms.now c.loop-term.term-index x (omega arith) c.term-item.is))

pub returns : goal.returns
returns c =
    let fc : SFits w128 c.args.c = search rules in
    let before = simp to_z-of_z at c.loop-term.invariant in
    before ∙ ap (row_of c.args.m.now c.args.c) (take_all c.loop-term.term-index c.args.terms.now (omega arith))

-- no monomial is over the limit on degrees
pub unreachable-requires : goal.unreachable-requires
unreachable-requires c =
    let x = c.term-item.result in
    let over : MAX_DEGREE < degree c.args.m.now + degree x.0 =
    subst (λ e. IsOverDegreeLimit (degree c.args.m.now + degree x.0) e) c.in-Err-Degree.field-0-is
    c.in-Err-Degree.ensures.refused in
    let under = degree_small c.args.terms.now c.loop-term.term-index x (omega arith) c.term-item.is in
    omega arith
