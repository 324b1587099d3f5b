use Rattle.std.proofs.Common.{rules, sym, subst, ◌∙◌}
use mir.Syntax.{w128}
use mir.Val.{SFits}
use Rattle.std.proofs.lemmas.Int.{to_z-of_z}
use Rattle.alg_mono.specs.Refusals.{RefusesWith}
use Rattle.alg_groebner.specs.Cancelling.{cancel_outcome}
use Rattle.alg_groebner.proofs.Cancelling.{outcome_is, cancelled_is}
use Rattle.alg_groebner.proofs.cancel.cancel.Goals as goal

pub returns-in_err-sum-clause-refused : goal.returns-in_err-sum-clause-refused
returns-in_err-sum-clause-refused c =
    let fits_u : SFits w128 c.leading_of-u.result = search rules in
    let fits_v : SFits w128 c.leading_of-v.result = search rules in
    let fits_a : SFits w128 c.left-a.result = search rules in
    let fits_b : SFits w128 c.right-b.result = search rules in
    let a = simp to_z-of_z at c.left-a.ensures.value in
    let b = simp to_z-of_z at c.right-b.ensures.value in
    let is =
    outcome_is c.args.m.now c.args.p.now c.args.n.now c.args.q.now c.leading_of-u.result c.leading_of-v.result
    c.left-a.result c.right-b.result c.leading_of-u.ensures.value c.leading_of-v.ensures.value a b in
    let tells = simp to_z-of_z at c.in_err-sum.ensures.refused in
    let told : RefusesWith c.in_err-sum.field-0.0 (cancel_outcome c.args.m.now c.args.p.now c.args.n.now c.args.q.now) =
    subst (RefusesWith c.in_err-sum.field-0.0) is tells in
    search (rules, told)

pub over_int-requires : goal.over_int-requires
over_int-requires c =
    let fits : SFits w128 c.content_of-d.result = search rules in
    let divides = c.content_of-d.ensures.divides in
    search (rules, divides)

pub returns-clause-value : goal.returns-clause-value
returns-clause-value c =
    let fits_u : SFits w128 c.leading_of-u.result = search rules in
    let fits_v : SFits w128 c.leading_of-v.result = search rules in
    let fits_a : SFits w128 c.left-a.result = search rules in
    let fits_b : SFits w128 c.right-b.result = search rules in
    let fits_d : SFits w128 c.content_of-d.result = search rules in
    let a = simp to_z-of_z at c.left-a.ensures.value in
    let b = simp to_z-of_z at c.right-b.ensures.value in
    let made = simp to_z-of_z at c.in_ok-sum.ensures.combination in
    let exact = simp to_z-of_z at c.in_ok-poly.ensures in
    let e = c.content_of-d.ensures in
    simp to_z-of_z
    (cancelled_is c.args.m.now c.args.p.now c.args.n.now c.args.q.now c.leading_of-u.result c.leading_of-v.result
    c.left-a.result c.right-b.result c.leading_of-u.ensures.value c.leading_of-v.ensures.value a b c.in_ok-sum.sum
    c.in_ok-poly.poly c.content_of-d.result made e.value e.positive exact)

pub returns-clause-fine : goal.returns-clause-fine
returns-clause-fine c =
    let fits_u : SFits w128 c.leading_of-u.result = search rules in
    let fits_v : SFits w128 c.leading_of-v.result = search rules in
    let fits_a : SFits w128 c.left-a.result = search rules in
    let fits_b : SFits w128 c.right-b.result = search rules in
    let a = simp to_z-of_z at c.left-a.ensures.value in
    let b = simp to_z-of_z at c.right-b.ensures.value in
    let fine = simp to_z-of_z at c.in_ok-sum.ensures.fine in
    sym (outcome_is c.args.m.now c.args.p.now c.args.n.now c.args.q.now c.leading_of-u.result c.leading_of-v.result
    c.left-a.result c.right-b.result c.leading_of-u.ensures.value c.leading_of-v.ensures.value a b) ∙ fine
