use Rattle.std.proofs.Common.{rules, ◌∙◌, ◌*◌, sym, ap, subst, arith}
use Rattle.alg_mono.specs.NumberedPolynomials.{Polynomial, product_of}
use Rattle.alg_mono.specs.Outcomes.{Outcome}
use Rattle.alg_mono.specs.Polynomials.{norm}
use Rattle.alg_horner.specs.Trees.{form_of}
use Rattle.alg_horner.proofs.Polynomials.{within_limits}
use Rattle.alg_reify.specs.FactorMaps.{product}
use Rattle.alg_reify.specs.Making.{Gives}
use Rattle.alg_reify.proofs.UnitPolynomials.{unit_is}
use Rattle.alg_field.proofs.Units.{unit_last}
use Rattle.alg_field.proofs.fraction.times_unit.Goals as goal

-- the product with the factors was refused, and 1 or -1 changes no rule
pub returns-in_err-top : goal.returns-in_err-top
returns-in_err-top c =
    let same = unit_last c.args.top c.args.unit c.args.factors.now c.requires in
    let P : Outcome → Type 0 = λ o. Gives (λ (q : Polynomial). q)
    (product_of (product_of c.args.top (product c.args.factors.now)) c.args.unit) o c.from_residual.result in
    subst P same (search rules)

pub times-requires-clause-norms : goal.times-requires-clause-norms
times-requires-clause-norms c =
    let small = (within_limits (form_of c.top.inside.form) c.in_ok-top.top c.top.invariant c.top.view_is).bounded in
    let one = (unit_is c.args.unit c.requires).norm in
    omega (arith, small, ap (λ n. norm c.in_ok-top.top * n) one)

pub times-requires-clause-degrees : goal.times-requires-clause-degrees
times-requires-clause-degrees c =
    let small = (within_limits (form_of c.top.inside.form) c.in_ok-top.top c.top.invariant c.top.view_is).small in
    let none = (unit_is c.args.unit c.requires).degree in
    omega (arith, small, none)

pub returns : goal.returns
returns c =
    let top = c.in_ok-top.ensures in (
      c.in_ok-times.ensures ∙ ap (λ p. product_of p c.args.unit) top.0,
      sym (unit_last c.args.top c.args.unit c.args.factors.now c.requires) ∙ top.1,
    )
