use Rattle.std.specs.Prelude.{slice_get}
use Rattle.std.proofs.Common.{rules, sym, ap, ◌∙◌}
use mir.Syntax.{w128}
use mir.Val.{SFits}
use Rattle.std.proofs.lemmas.Int.{to_z-of_z}
use Rattle.alg_groebner.proofs.Leading.{leading_small}
use Rattle.alg_groebner.proofs.leads.leading_of.Goals as goal

pub returns : goal.returns
returns c =
    let x = c.in-Some.term.now in
    let fits : SFits w128 x.1 = search rules in
    let first = c.in-Some.ensures.value ∙ ap (λ l. slice_get l 0) c.terms.ensures.all in
    let is = leading_small c.args.p.now x (sym first) c.terms.ensures.sound in
    simp to_z-of_z (record { value = is.0; some = is.1; fits = is.2 })
