use Rattle.std.specs.Prelude.{slice_get}
use Rattle.std.proofs.Common.{rules, ap, subst, ◌∙◌}
use mir.Syntax.{w128}
use mir.Val.{SFits}
use Rattle.std.proofs.lemmas.Int.{to_z-of_z}
use Rattle.alg_mono.specs.NumberedPolynomials.{Polynomial, IsLead}
use Rattle.alg_poly.proofs.Differences.{leads}
use Rattle.alg_poly.proofs.poly.Poly.lead.Goals as goal

pub returns-in-Some-clause-greatest : goal.returns-in-Some-clause-greatest
returns-in-Some-clause-greatest c =
    let x = c.in-Some.term.now in
    let fits : SFits w128 x.1 = search rules in
    let first = c.in-Some.ensures.value ∙ ap (λ l. slice_get l 0) c.deref.ensures.value in
    simp to_z-of_z (subst (λ (p : Polynomial). IsLead p x.0 x.1) c.self.view_is
    (leads c.self.inside.terms.items x c.self.invariant.polynomial.canonical first))
