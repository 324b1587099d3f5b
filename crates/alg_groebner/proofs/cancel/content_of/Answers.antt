use Rattle.std.proofs.Common.{rules}
use mir.Syntax.{w128}
use mir.Val.{SFits}
use Rattle.std.proofs.lemmas.Int.{to_z-of_z}
use Rattle.alg_groebner.proofs.Cancelling.{content_number}
use Rattle.alg_groebner.proofs.cancel.content_of.Goals as goal

pub returns : goal.returns
returns c =
    let fits : SFits w128 c.content.result = search rules in
    let e = c.content.ensures in
    let number = content_number c.args.p.now c.content.result c.terms.ensures.sound e.positive e.content e.zero in
    simp to_z-of_z (record { value = number.0; divides = number.1; positive = e.positive })
