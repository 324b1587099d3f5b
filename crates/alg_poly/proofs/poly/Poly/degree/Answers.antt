use Rattle.std.specs.Prelude.{slice_get}
use Rattle.std.proofs.Common.{ap, ◌∙◌}
use Rattle.alg_mono.specs.Polynomials.{poly_degree}
use Rattle.alg_poly.proofs.Leads.{first_degree}
use Rattle.alg_poly.proofs.poly.Poly.degree.Goals as goal

pub returns-in-Some-clause-greatest : goal.returns-in-Some-clause-greatest
returns-in-Some-clause-greatest c =
    let first = c.in-Some.ensures.value ∙ ap (λ l. slice_get l 0) c.deref.ensures.value in
    c.degree.ensures.sum
    ∙ first_degree c.self.inside.terms.items c.in-Some.term.now c.self.invariant.polynomial.canonical first
    ∙ ap poly_degree c.self.view_is
