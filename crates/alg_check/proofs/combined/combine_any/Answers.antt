use Rattle.std.proofs.Common.{rules}
use mir.Syntax.{w128}
use mir.Val.{SFits}
use Rattle.std.proofs.lemmas.Int.{to_z-of_z}
use Rattle.alg_check.specs.Checking.{IsFactor}
use Rattle.alg_check.proofs.Made.{makes_any}
use Rattle.alg_check.proofs.combined.combine_any.Goals as goal

pub returns : goal.returns
returns c =
    let a : SFits w128 c.args.a = search rules in
    let b : SFits w128 c.args.b = search rules in
    let x : SFits w128 c.factor_of-left.result = search rules in
    let y : SFits w128 c.factor_of-right.result = search rules in
    let left : IsFactor c.args.a c.args.p.now c.factor_of-left.result =
    simp to_z-of_z at c.factor_of-left.ensures.factor in
    let right : IsFactor c.args.b c.args.q.now c.factor_of-right.result =
    simp to_z-of_z at c.factor_of-right.ensures.factor in
    makes_any c.args.a c.factor_of-left.result c.args.m.now c.args.p.now c.args.b c.factor_of-right.result
    c.args.n.now c.args.q.now left right c.combine.result
    (simp to_z-of_z at c.combine.ensures.combination) (simp to_z-of_z at c.combine.ensures.fine)
    (simp to_z-of_z at c.combine.ensures.refused)
