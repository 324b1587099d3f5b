use Rattle.std.specs.Prelude.{◌<◌, ◌≤◌, ◌+◌, length}
use Rattle.std.proofs.Common.{rules, arith, ◌∙◌, sym, ap}
use Rattle.alg_field.specs.Lists.{place_of}
use Rattle.alg_field.proofs.Places.{put_at, put_last}
use Rattle.alg_field.proofs.lists.put_factor.Goals as goal

pub overflow_add-index_mut : goal.overflow_add-index_mut
overflow_add-index_mut c =
    let items = c.args.list.now.items in
    let at = c.place-at.ensures.place ∙ ap (place_of c.args.q) c.deref.ensures.value in
    let here : c.place-at.result < length items = search rules in
    let x = c.index_mut.result.now in
    let small = (put_at c.args.q c.args.e items c.place-at.result x at here c.index_mut.ensures.value).1 in
    let within = c.requires.within in
    let fits : x.1 + c.args.e ≤ 1000 = omega (arith, small, within) in
    search rules

-- the factor was there
pub returns-then-at-len : goal.returns-then-at-len
returns-then-at-len c =
    let items = c.args.list.now.items in
    let at = c.place-at.ensures.place ∙ ap (place_of c.args.q) c.deref.ensures.value in
    let here : c.place-at.result < length items = search rules in
    (put_at c.args.q c.args.e items c.place-at.result c.index_mut.result.now at here c.index_mut.ensures.value).0

-- it was not
pub returns : goal.returns
returns c =
    let items = c.args.list.now.items in
    let at = c.place-at.ensures.place ∙ ap (place_of c.args.q) c.deref.ensures.value in
    let beyond : length items ≤ c.place-at.result = search rules in
    c.in_ok-push.ensures.items ∙ sym (put_last c.args.q c.args.e items (omega (arith, at, beyond)))
