use Rattle.std.specs.Prelude.{◌≡◌, ◌%◌, ◌↔◌, ℤ, pos, ◌≤ℤ◌, All, IsTrue, unsigned_abs}
use Rattle.std.proofs.Common.{rules, refl, sym, subst, ◌∙◌, arith}
use mir.Syntax.{w128}
use mir.Val.{SFits}
use Rattle.std.proofs.lemmas.Int.{ints}
use Rattle.alg_mono.specs.Mono.{Monomial}
use Rattle.alg_mono.specs.NumberedPolynomials.{Polynomial}
use Rattle.alg_poly.specs.Divisors.{IsDivisible}
use Rattle.alg_poly.proofs.Contents.{divides_each, one_divides_each}
use Rattle.alg_poly.proofs.poly.Poly.divisible_by.Goals as goal

pub returns-then-d-eq1 : goal.returns-then-d-eq1
returns-then-d-eq1 c =
    let fits : SFits w128 c.args.d = search rules in
    let one : c.args.d ≡ pos 1 = search rules in
    let low : pos 1 ≤ℤ pos 1 = omega (arith, ints) in
    (λ h. subst (λ d. IsDivisible d c.args.self.now) (sym one) (low, one_divides_each c.args.self.now), λ h. refl)

pub returns-then-d-ge1 : goal.returns-then-d-ge1
returns-then-d-ge1 c =
    let d = c.args.d in
    let p = c.args.self.now in
    let answer = c.divides_each.result in
    let fits : SFits w128 d = search rules in
    let low : pos 1 ≤ℤ d = search rules in
    let magnitude : c.unsigned_abs.result ≡ unsigned_abs d = search rules in
    let now = c.deref.ensures.value ∙ c.self.view_is in
    let tested =
    subst (λ (q : Polynomial). IsTrue answer ↔ All (λ (e : Monomial × ℤ). unsigned_abs e.1 % unsigned_abs d ≡ 0) q) now
    (subst (λ n. IsTrue answer ↔ All (λ (e : Monomial × ℤ). unsigned_abs e.1 % n ≡ 0) c.deref.result.now) magnitude
    c.divides_each.ensures) in
    let same = divides_each (unsigned_abs d) p in
    (λ h. (low, same.0 (tested.0 h)), λ h. tested.1 (same.1 h.1))
