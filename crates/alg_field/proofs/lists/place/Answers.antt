use Rattle.std.specs.Prelude.{◌≡◌, ◌≢◌}
use Rattle.std.proofs.Common.{rules, arith, ◌∙◌, sym}
use Rattle.alg_field.proofs.Places.{place_found, place_turn}
use Rattle.alg_field.proofs.lists.place.Goals as goal

pub returns-then-same-clause-place : goal.returns-then-same-clause-place
returns-then-same-clause-place c =
    let x = c.index-list-i.result in
    let is : x.0 ≡ c.args.q.now = search rules in
    sym (place_found c.args.q.now c.args.list.now c.loop-i.i x x (omega arith) c.index-list-i.is is)
    ∙ c.loop-i.invariant

pub loop-i-preserved : goal.loop-i-preserved
loop-i-preserved c =
    let x = c.index-list-i.result in
    let other : x.0 ≢ c.args.q.now = search rules in
    place_turn c.args.q.now c.args.list.now c.loop-i.i x x (omega arith) c.index-list-i.is other
    ∙ c.loop-i.invariant
