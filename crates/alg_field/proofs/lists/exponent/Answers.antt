use Rattle.std.specs.Prelude.{◌≡◌, ◌≢◌}
use Rattle.std.proofs.Common.{rules, arith, ◌∙◌}
use Rattle.alg_field.proofs.ListMaps.{exponent_found, exponent_turn}
use Rattle.alg_field.proofs.lists.exponent.Goals as goal

pub returns-then-same : goal.returns-then-same
returns-then-same c =
    let x = c.factor-item.result in
    let is : x.0 ≡ c.args.q.now = search rules in
    exponent_found c.args.q.now c.args.list.now c.loop-factor.factor-index x x (omega arith) c.factor-item.is
    c.requires is
    ∙ c.loop-factor.invariant

pub loop-factor-preserved : goal.loop-factor-preserved
loop-factor-preserved c =
    let x = c.factor-item.result in
    let other : x.0 ≢ c.args.q.now = search rules in
    exponent_turn c.args.q.now c.args.list.now c.loop-factor.factor-index x x (omega arith) c.factor-item.is other
    ∙ c.loop-factor.invariant
