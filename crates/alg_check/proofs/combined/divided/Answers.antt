use Rattle.std.proofs.Common.{◌≢◌, sym, subst, ◌∙◌, rules, arith, pos}
use mir.Syntax.{w128}
use mir.Val.{SFits}
use Rattle.std.proofs.lemmas.Int.{to_z-of_z, ints}
use Rattle.alg_poly.specs.Divisors.{IsDivisible}
use Rattle.alg_poly.proofs.Zeros.{multiple_is_times}
use Rattle.alg_check.proofs.combined.divided.Goals as goal

pub returns-then-not-divisible_by : goal.returns-then-not-divisible_by
returns-then-not-divisible_by c =
    let a : SFits w128 c.args.a = search rules in
    let b : SFits w128 c.args.b = search rules in
    let d : SFits w128 c.args.d = search rules in
    let made = simp to_z-of_z at c.in-Ok.ensures in
    let test = simp to_z-of_z at c.divisible_by.ensures in
    let apart : IsDivisible c.args.d c.in-Ok.sum → ⊥ = λ h. let yes = test.1 h in search rules in
    λ fine divides. apart (subst (IsDivisible c.args.d) (sym made.0) divides)

pub returns : goal.returns
returns c =
    let a : SFits w128 c.args.a = search rules in
    let b : SFits w128 c.args.b = search rules in
    let d : SFits w128 c.args.d = search rules in
    let made = simp to_z-of_z at c.in-Ok.ensures in
    let test = simp to_z-of_z at c.divisible_by.ensures in
    let divides : IsDivisible c.args.d c.in-Ok.sum = test.0 (search rules) in
    let low = divides.0 in
    let some : c.args.d ≢ pos 0 = λ e. omega (arith, ints) in
    let times = simp to_z-of_z at c.in_ok-quotient.ensures in (
      made.1,
      subst (IsDivisible c.args.d) made.0 divides,
      c.terms.ensures.sound.polynomial,
      multiple_is_times c.args.d c.in_ok-quotient.quotient some c.terms.ensures.sound.polynomial ∙ times ∙ made.0,
    )
