use Rattle.std.proofs.Common.{rules}
use mir.Syntax.{w128}
use mir.Val.{SFits}
use Rattle.std.proofs.lemmas.Int.{to_z-of_z}
use Rattle.alg_groebner.specs.Steps.{work_of}
use Rattle.alg_groebner.proofs.Moves.{step_pushed}
use Rattle.alg_groebner.proofs.machine.Machine.push_step.Goals as goal

pub returns : goal.returns
returns c =
    let x = c.args.c in
    let fits_a : SFits w128 x.a = search rules in
    let fits_b : SFits w128 x.b = search rules in
    let fits_d : SFits w128 x.d = search rules in
    step_pushed (work_of c.args.self.now) c.args.r c.index_mut-remainder.result.now c.args.n c.args.j x c.push.new.self
    c.requires.place c.index_mut-remainder.ensures.value (simp to_z-of_z at c.in_ok-push.ensures.ok)
