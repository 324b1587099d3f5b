use Rattle.std.specs.Prelude.{◌≡◌, pos}
use Rattle.std.proofs.Common.{rules, sym, ap, subst, ◌∙◌, arith}
use mir.Syntax.{w128}
use mir.Val.{SFits}
use Rattle.std.specs.Ordering.{nat_cmp}
use Rattle.std.proofs.lemmas.Int.{to_z-of_z, ints}
use Rattle.alg_mono.specs.Polynomials.{IsPoly}
use Rattle.alg_poly.specs.Divisors.{IsDivisible, times_number}
use Rattle.alg_mono.specs.NumberedPolynomials.{Polynomial}
use Rattle.alg_poly.proofs.Contents.{IsPoly-from_times}
use Rattle.alg_poly.proofs.Zeros.{one_time}
use Rattle.alg_poly.proofs.poly.Poly.over_int.Goals as goal

pub returns-then-d-le1 : goal.returns-then-d-le1
returns-then-d-le1 c =
    let fits : SFits w128 c.args.d = search rules in
    let one : c.args.d ≡ pos 1 = let r = c.requires.0 in omega (arith, ints) in
    ap (λ d. times_number d c.args.self) one ∙ one_time c.args.self

pub quotients-requires : goal.quotients-requires
quotients-requires c =
    let fits : SFits w128 c.args.d = search rules in
    let now = c.deref.ensures.value ∙ c.self.view_is in
    simp to_z-of_z (subst (λ (p : Polynomial). IsDivisible c.args.d p) (sym now) c.requires)

pub invariant_of-result : goal.invariant_of-result
invariant_of-result c =
    let fits : SFits w128 c.args.d = search rules in
    let is = simp to_z-of_z at c.in_ok-terms.ensures in
    IsPoly-from_times c.args.d c.in_ok-terms.terms.items c.requires.0
    (subst (IsPoly nat_cmp) (sym (is ∙ c.deref.ensures.value)) c.self.invariant)
