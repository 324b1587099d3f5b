use Rattle.std.specs.Prelude.{◌≡◌, ◌+◌, length}
use Rattle.std.proofs.Common.{rules, arith}
use mir.Syntax.{w128}
use mir.Val.{SFits}
use Rattle.std.proofs.lemmas.Int.{to_z-of_z}
use Rattle.alg_groebner.specs.Steps.{work_of}
use Rattle.alg_groebner.proofs.Moves.{pushed}
use Rattle.alg_groebner.proofs.machine.Machine.push_line.Goals as goal

pub returns : goal.returns
returns c =
    let x = c.args.c in
    let fits_a : SFits w128 x.a = search rules in
    let fits_b : SFits w128 x.b = search rules in
    let fits_d : SFits w128 x.d = search rules in
    let number : c.args.self.now.given + c.len.result ≡ c.args.self.now.given + length c.args.self.now.made.items + 1
    = search (rules, arith) in
    pushed (work_of c.args.self.now) c.args.m c.args.i c.args.n c.args.j x c.push.new.self.items
    (c.args.self.now.given + c.len.result) (simp to_z-of_z at c.in_ok-push.ensures.items) number
