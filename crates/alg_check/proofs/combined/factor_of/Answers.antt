use Rattle.std.proofs.Common.{rules, ◌≢◌, []}
use mir.Syntax.{w128}
use mir.Val.{SFits}
use Rattle.std.proofs.lemmas.Int.{to_z-of_z}
use Rattle.alg_check.proofs.Factors.{least_is_great}
use Rattle.alg_check.proofs.combined.factor_of.Goals as goal

pub returns-else-is_zero-clause-least : goal.returns-else-is_zero-clause-least
returns-else-is_zero-clause-least c =
    let fits : SFits w128 c.args.c = search rules in
    let some : c.args.p.now ≢ [] = search rules in
    λ e. least_is_great c.args.c c.args.p.now c.terms.ensures.sound some (simp to_z-of_z at e)
