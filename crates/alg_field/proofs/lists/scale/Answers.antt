use Rattle.std.proofs.Common.{rules, arith, ◌≡◌, ◌+◌, ◌*◌, ◌<◌, ◌∙◌, ap, get_or, length, slice_set, suc}
use Rattle.alg_field.proofs.Scaling.{scaled_to, scaled_at, scaled_next, scaled_small, scaled_all, length-scaled_to}
use Rattle.alg_field.proofs.lists.scale.Goals as goal

-- the exponent is still the list's own
pub overflow_mul-index_mut : goal.overflow_mul-index_mut
overflow_mul-index_mut c =
    let es = c.args.list.now.items in
    let i = c.loop-i.i in
    let x = c.index_mut.result.now in
    let many = length-scaled_to c.args.n i es in
    let here : i < length es = omega (arith, ap length c.loop-i.invariant, many) in
    let is : x ≡ get_or es i x = c.index_mut.ensures.value ∙ ap (λ l. get_or l i x) c.loop-i.invariant
    ∙ scaled_at c.args.n i es x in
    let small = scaled_small c.args.n i es x here is c.requires in
    search rules

pub loop-i-preserved : goal.loop-i-preserved
loop-i-preserved c =
    let es = c.args.list.now.items in
    let i = c.loop-i.i in
    let x = c.index_mut.result.now in
    let many = length-scaled_to c.args.n i es in
    let here : i < length es = omega (arith, ap length c.loop-i.invariant, many) in
    let is : x ≡ get_or es i x = c.index_mut.ensures.value ∙ ap (λ l. get_or l i x) c.loop-i.invariant
    ∙ scaled_at c.args.n i es x in
    let next : suc i ≡ i + 1 = omega arith in
    ap (λ l. slice_set l i (x.0, x.1 * c.args.n)) c.loop-i.invariant ∙ scaled_next c.args.n i es x here is
    ∙ ap (λ k. scaled_to c.args.n k es) next

pub returns : goal.returns
returns c =
    let es = c.args.list.now.items in
    let many = length-scaled_to c.args.n c.loop-i.i es in
    c.loop-i.invariant ∙ scaled_all c.args.n c.loop-i.i es (omega (arith, ap length c.loop-i.invariant, many))
