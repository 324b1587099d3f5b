use Rattle.std.proofs.Common.{rules, ◌++◌}
use mir.Syntax.{w128}
use mir.Val.{SFits}
use Rattle.std.proofs.lemmas.Int.{to_z-of_z}
use Rattle.alg_lines.specs.Accepting.{IsOneOf}
use Rattle.alg_check.proofs.Made.{if_ok, next_line_is}
use Rattle.alg_check.proofs.certificate.next_line.Goals as goal

pub returns : goal.returns
returns c =
    let line = c.args.next.now in
    let lines = c.args.hyps.now ++ c.args.made.now in
    let first : IsOneOf lines line.i = search rules in
    let second : IsOneOf lines line.j = search rules in
    let a : SFits w128 line.a = search rules in
    let b : SFits w128 line.b = search rules in
    let d : SFits w128 line.d = search rules in
    if_ok c.divided.result
    (next_line_is lines line first second c.line-p.result.now c.line-q.result.now c.line-p.ensures c.line-q.ensures)
    (simp to_z-of_z at c.divided.ensures)
