use Rattle.std.specs.Prelude.{slice_get}
use Rattle.std.proofs.Common.{sym, ap, ◌∙◌}
use Rattle.alg_groebner.proofs.Leading.{lead_small}
use Rattle.alg_groebner.proofs.leads.lead_of.Goals as goal

pub returns : goal.returns
returns c =
    let first = c.in-Some.ensures.value ∙ ap (λ l. slice_get l 0) c.terms.ensures.all in
    let is = lead_small c.args.p.now c.in-Some.term.now (sym first) c.terms.ensures.sound in
    record { value = is.0; sound = is.1 }
