use Rattle.std.proofs.Common.{rules, ◌≡◌, pos}
use mir.Syntax.{w128}
use mir.Val.{SFits}
use Rattle.std.proofs.lemmas.Int.{to_z-of_z}
use Rattle.alg_horner.specs.Form.{Form}
use Rattle.alg_horner.specs.Trees.{form_of}
use Rattle.alg_horner.proofs.Accumulated.{acc_none}
use Rattle.alg_horner.proofs.accumulate.add_copy.Goals as goal

-- a multiple that is added to 0
pub returns-then-is_zero-clause-map : goal.returns-then-is_zero-clause-map
returns-then-is_zero-clause-map c =
    let fits : SFits w128 c.args.c = search rules in
    let none : form_of c.args.total ≡ Form.Const (pos 0) = search rules in
    let more = simp to_z-of_z at c.in_ok-more.ensures.map in
    λ s. acc_none s c.args.c (form_of c.args.total) (form_of c.args.q.now) (form_of c.in_ok-more.more.value) none
    (more s)
