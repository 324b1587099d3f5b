use Rattle.std.proofs.Common.{◌≡◌, ◌++◌, ◌≤◌, [], IfOk, subst, sym, ap, ◌∙◌, arith}
use Rattle.alg_mono.specs.FiniteMaps.{collect}
use Rattle.alg_mono.specs.NumberedPolynomials.{Polynomial, before}
use Rattle.alg_mono.specs.Numbers.{integers}
use Rattle.alg_mono.specs.Polynomials.{MAX, norm}
use Rattle.alg_horner.specs.Terms.{terms_of}
use Rattle.alg_horner.specs.Trees.{form_of}
use Rattle.alg_horner.proofs.Listed.{norm-terms_of, terms_are}
use Rattle.alg_horner.proofs.Polynomials.{within_limits}
use Rattle.alg_horner.proofs.poly.HornerPoly.terms.Goals as goal

pub collected-requires : goal.collected-requires
collected-requires c =
    let f = form_of c.self.inside.form in
    let listed : c.deref.result.now ≡ terms_of [] 0 f =
    c.deref.ensures.value ∙ c.in_ok-push_terms.ensures
    ∙ (λ n. c.new-terms.ensures.items n ++ terms_of (c.one-one.ensures n) 0 f) in
    let light = c.self.invariant.norm in
    subst (λ (p : Polynomial). norm p ≤ MAX) (sym listed) (let e = norm-terms_of [] 0 f in omega arith)

-- the terms of the form add up to its polynomial
pub returns-clause-all : goal.returns-clause-all
returns-clause-all c =
    let f = form_of c.self.inside.form in
    let listed : c.deref.result.now ≡ terms_of [] 0 f =
    c.deref.ensures.value ∙ c.in_ok-push_terms.ensures
    ∙ (λ n. c.new-terms.ensures.items n ++ terms_of (c.one-one.ensures n) 0 f) in
    subst (λ (p : Polynomial). IfOk c.collected.result (λ v. v.items ≡ p))
    (ap (λ (p : Polynomial). collect before integers.amounts p) listed ∙ terms_are f ∙ c.self.view_is)
    c.collected.ensures

pub returns-clause-sound : goal.returns-clause-sound
returns-clause-sound c = within_limits (form_of c.self.inside.form) c.args.self.now c.self.invariant c.self.view_is

pub returns-in_err-push_terms-clause-sound : goal.returns-in_err-push_terms-clause-sound
returns-in_err-push_terms-clause-sound c =
    within_limits (form_of c.self.inside.form) c.args.self.now c.self.invariant c.self.view_is
