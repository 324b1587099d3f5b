use Rattle.std.specs.Prelude.{◌≡◌, ◌≢◌}
use Rattle.std.proofs.Common.{rules, arith, ◌∙◌}
use mir.Syntax.{w128}
use mir.Val.{SFits}
use Rattle.std.proofs.lemmas.Int.{to_z-of_z}
use Rattle.alg_poly.proofs.Differences.{coefficient_turn, coefficient_found}
use Rattle.alg_poly.proofs.difference.coefficient_in.Goals as goal

pub returns-then-same : goal.returns-then-same
returns-then-same c =
    let x = c.term-item.result in
    let m = c.args.m.now in
    let fits : SFits w128 x.1 = search rules in
    let is : x.0 ≡ m = search rules in
    simp to_z-of_z (coefficient_found m c.args.terms.now c.loop-term.term-index x (omega arith) c.term-item.is
    c.requires is
    ∙ c.loop-term.invariant)

pub loop-term-preserved : goal.loop-term-preserved
loop-term-preserved c =
    let x = c.term-item.result in
    let m = c.args.m.now in
    let other : x.0 ≢ m = search rules in
    coefficient_turn m c.args.terms.now c.loop-term.term-index x (omega arith) c.term-item.is other
    ∙ c.loop-term.invariant
