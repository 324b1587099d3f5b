use Rattle.std.specs.Prelude.{◌≡◌, ◌+◌, ◌*◌, ◌%◌, ◌<◌, ◌≤◌, IfOk}
use Rattle.std.proofs.Common.{arith, sym, ap, subst, ◌∙◌}
use Rattle.std.specs.Ordering.{nat_cmp}
use Rattle.alg_mono.specs.Monomials.{MAX_DEGREE}
use Rattle.alg_mono.specs.Numbers.{integers}
use Rattle.alg_mono.specs.Polynomials.{IsPolynomial, MAX, norm, poly_degree}
use Rattle.alg_mono.specs.NumberedPolynomials.{Polynomial, product_of, power_of}
use Rattle.alg_mono.proofs.Powers.{twice_half, half_norm, half_degree, half_sound, square_norm, square_degree, square_is}
use Rattle.alg_poly.proofs.Powers.{rest_norm, rest_degree, rest_sound, factor_norm, factor_degree, factor_is}
use Rattle.alg_poly.proofs.product.+raise.Goals as goal

-- one factor fewer keeps the limits
pub raise-requires : goal.raise-requires
raise-requires t c =
    let p = c.args.terms.now in
    let n = c.args.n in
    let some : 0 < n = let e = c.if-n-eq0.false in omega arith in
    let r = c.requires in (
      omega (arith, c.decreases),
      (r.sound, (rest_norm p n some r.norms r.degrees, rest_degree p n some r.norms r.degrees)),
    )

-- and so does the list times that power
pub multiply-requires-clause-sound_b : goal.multiply-requires-clause-sound_b
multiply-requires-clause-sound_b t c =
    let r = c.requires in
    let some : 0 < c.args.n = let e = c.if-n-eq0.false in omega arith in
    subst (IsPolynomial nat_cmp integers) (sym (c.deref.ensures.value ∙ c.in_ok-rest.ensures))
    (rest_sound c.args.terms.now c.args.n some r.norms r.degrees r.sound)

pub multiply-requires-clause-norms : goal.multiply-requires-clause-norms
multiply-requires-clause-norms t c =
    let r = c.requires in
    let some : 0 < c.args.n = let e = c.if-n-eq0.false in omega arith in
    subst (λ (q : Polynomial). norm c.args.terms.now * norm q ≤ MAX)
    (sym (c.deref.ensures.value ∙ c.in_ok-rest.ensures))
    (factor_norm c.args.terms.now c.args.n some r.norms r.degrees)

pub multiply-requires-clause-degrees : goal.multiply-requires-clause-degrees
multiply-requires-clause-degrees t c =
    let r = c.requires in
    let some : 0 < c.args.n = let e = c.if-n-eq0.false in omega arith in
    subst (λ (q : Polynomial). poly_degree c.args.terms.now + poly_degree q ≤ MAX_DEGREE)
    (sym (c.deref.ensures.value ∙ c.in_ok-rest.ensures))
    (factor_degree c.args.terms.now c.args.n some r.norms r.degrees)

pub returns-then-terms-gt1 : goal.returns-then-terms-gt1
returns-then-terms-gt1 t c =
    let r = c.requires in
    let p = c.args.terms.now in
    let some : 0 < c.args.n = let e = c.if-n-eq0.false in omega arith in
    subst (λ (w : Polynomial). IfOk c.multiply.result (λ v. v.items ≡ w))
    ((λ k. product_of p ((c.deref.ensures.value ∙ c.in_ok-rest.ensures) k))
    ∙ factor_is p c.args.n some r.norms r.degrees)
    c.multiply.ensures

-- the half of the exponent keeps the limits
pub raise-requires-2 : goal.raise-requires-2
raise-requires-2 t c =
    let p = c.args.terms.now in
    let n = c.args.n in
    let r = c.requires in (
      (let e = c.if-n-eq0.false in omega (arith, c.decreases)),
      (r.sound, (half_norm p n r.sound r.norms r.degrees, half_degree p n r.sound r.norms r.degrees)),
    )

-- the square of the half is within the limits
pub multiply-requires-2-clause-sound_a : goal.multiply-requires-2-clause-sound_a
multiply-requires-2-clause-sound_a t c =
    let r = c.requires in
    subst (IsPolynomial nat_cmp integers) (sym (c.deref-2.ensures.value ∙ c.in_ok-half.ensures))
    (half_sound c.args.terms.now c.args.n r.sound r.norms r.degrees)

pub multiply-requires-2-clause-sound_b : goal.multiply-requires-2-clause-sound_b
multiply-requires-2-clause-sound_b t c =
    let r = c.requires in
    subst (IsPolynomial nat_cmp integers) (sym (c.deref-3.ensures.value ∙ c.in_ok-half.ensures))
    (half_sound c.args.terms.now c.args.n r.sound r.norms r.degrees)

pub multiply-requires-2-clause-norms : goal.multiply-requires-2-clause-norms
multiply-requires-2-clause-norms t c =
    let r = c.requires in
    let a = c.deref-2.ensures.value ∙ c.in_ok-half.ensures in
    let b = c.deref-3.ensures.value ∙ c.in_ok-half.ensures in
    subst (λ n. n ≤ MAX) (λ k. norm (sym a k) * norm (sym b k))
    (square_norm c.args.terms.now c.args.n r.sound r.norms r.degrees)

pub multiply-requires-2-clause-degrees : goal.multiply-requires-2-clause-degrees
multiply-requires-2-clause-degrees t c =
    let r = c.requires in
    let a = c.deref-2.ensures.value ∙ c.in_ok-half.ensures in
    let b = c.deref-3.ensures.value ∙ c.in_ok-half.ensures in
    subst (λ n. n ≤ MAX_DEGREE) (λ k. poly_degree (sym a k) + poly_degree (sym b k))
    (square_degree c.args.terms.now c.args.n r.sound r.norms r.degrees)

-- the exponent is even, and the square is the power
pub returns : goal.returns
returns t c =
    let r = c.requires in
    let p = c.args.terms.now in
    let a = c.deref-2.ensures.value ∙ c.in_ok-half.ensures in
    let b = c.deref-3.ensures.value ∙ c.in_ok-half.ensures in
    let even : c.args.n % 2 ≡ 0 = let e = c.if-n-eq1.false in omega arith in
    subst (λ (w : Polynomial). IfOk c.multiply-2.result (λ v. v.items ≡ w))
    ((λ k. product_of (a k) (b k)) ∙ square_is p c.args.n r.sound r.norms r.degrees
    ∙ ap (power_of p) (sym (twice_half c.args.n even)))
    c.multiply-2.ensures
