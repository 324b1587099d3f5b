use Rattle.std.specs.Prelude.{◌++◌, ◌∷◌, [], pos, ◌<ℤ◌}
use Rattle.std.proofs.Common.{rules, arith, ap, ◌∙◌}
use mir.Syntax.{w128}
use mir.Val.{SFits}
use Rattle.std.specs.Int.RustNames.{int_div}
use Rattle.std.proofs.lemmas.Int.{ints, to_z-of_z, quot_fits}
use Rattle.alg_poly.specs.Divisors.{times_number}
use Rattle.alg_mono.specs.Mono.{Monomial}
use Rattle.alg_poly.proofs.Contents.{quotient_more}
use Rattle.alg_poly.proofs.content.quotients.Goals as goal

pub loop-term-preserved : goal.loop-term-preserved
loop-term-preserved c =
    let x = c.term-item.result in
    let p = c.args.terms.now in
    let d = c.args.d in
    let out = c.loop-term.out.items in
    let fits : SFits w128 x.1 = search rules in
    let fits_d : SFits w128 d = search rules in
    let r = c.requires in
    let low = r.0 in
    let positive : pos 0 <ℤ d = omega (arith, ints) in
    let fits_q : SFits w128 (int_div x.1 d) = quot_fits w128 x.1 d fits positive in
    let pushed = simp to_z-of_z at c.in_ok-push.ensures.items in
    let before = simp to_z-of_z at c.loop-term.invariant in
    simp to_z-of_z (ap (times_number d) (pushed ∙ ap (λ (m : Monomial). out ++ (m, int_div x.1 d) ∷ [])
    c.in_ok-copy.ensures)
    ∙ quotient_more d p out c.loop-term.term-index x (omega arith) c.term-item.is r.1 before)
