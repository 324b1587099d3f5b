use Rattle.std.proofs.Common.{rules, ◌++◌, pos, ◌≤ℤ◌}
use mir.Syntax.{w128}
use mir.Val.{SFits}
use Rattle.std.proofs.lemmas.Int.{to_z-of_z}
use Rattle.alg_lines.specs.Accepting.{IsOneOf}
use Rattle.alg_check.proofs.Made.{if_ok, next_remainder_is}
use Rattle.alg_check.proofs.certificate.next_remainder.Goals as goal

pub returns : goal.returns
returns c =
    let step = c.args.step.now in
    let lines = c.args.hyps.now ++ c.args.made.now in
    let line : IsOneOf lines step.j = search rules in
    let factor : pos 1 ≤ℤ step.a = search rules in
    let a : SFits w128 step.a = search rules in
    let b : SFits w128 step.b = search rules in
    let d : SFits w128 step.d = search rules in
    if_ok c.divided.result
    (next_remainder_is lines c.args.before.now step line factor c.one-one.result c.line-q.result.now c.one-one.ensures
    c.line-q.ensures)
    (simp to_z-of_z at c.divided.ensures)
