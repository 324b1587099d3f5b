use Rattle.std.specs.Prelude.{◌≡◌, ◌+◌, ◌*◌, ◌/◌, ◌<◌, ◌≤◌, IfOk, length}
use Rattle.std.proofs.Common.{arith, rules, sym, ap, subst, ◌∙◌}
use mir.Syntax.{w128}
use mir.Val.{SFits}
use Rattle.std.proofs.lemmas.Int.{to_z-of_z}
use Rattle.std.specs.Ordering.{nat_cmp}
use Rattle.alg_mono.specs.FiniteMaps.{IsCanonical}
use Rattle.alg_mono.specs.Monomials.{MAX_DEGREE}
use Rattle.alg_mono.specs.Numbers.{integers}
use Rattle.alg_mono.specs.Polynomials.{IsPolynomial, MAX, norm, poly_degree}
use Rattle.alg_mono.specs.NumberedPolynomials.{Polynomial, before, sum_of, product_of}
use Rattle.alg_poly.proofs.Parts.{IsPolynomial-take, IsPolynomial-drop, part_bound, rest_bound, parts_bound, degree-take, degree-drop, product_parts, IsCanonical-product, some_terms}
use Rattle.alg_mono.proofs.Rows.{product_of_one}
use Rattle.alg_poly.proofs.product.+multiply.Goals as goal

-- one term: its row
pub returns-then-a-eq1 : goal.returns-then-a-eq1
returns-then-a-eq1 t c =
    let x = c.index-a-0.result in
    let fits : SFits w128 x.1 = search rules in
    let is = product_of_one c.args.a.now c.args.b.now x c.if-a-eq1.true c.index-a-0.is c.requires.sound_a
    c.requires.sound_b in
    subst (λ (w : Polynomial). IfOk c.row.result (λ v. v.items ≡ w)) is (simp to_z-of_z at c.row.ensures)

-- the front half is shorter, and within the limits
pub multiply-requires : goal.multiply-requires
multiply-requires t c =
    let a = c.args.a.now in
    let b = c.args.b.now in
    let i = length a / 2 in
    let part = sym c.split_at.ensures.front in
    let some = some_terms _ _ c.is_empty.ensures c.if-is_empty.false in
    let smaller : length c.split_at.result.0.now < t = omega (arith, c.split_at.ensures.front_len, c.decreases) in (
      smaller,
      (
        subst (IsPolynomial nat_cmp integers) part (IsPolynomial-take i a c.requires.sound_a),
        (
          c.requires.sound_b,
          (
            subst (λ (p : Polynomial). norm p * norm b ≤ MAX) part (part_bound i a b c.requires.norms),
            subst (λ (p : Polynomial). poly_degree p + poly_degree b ≤ MAX_DEGREE) part
                (let d = degree-take i a in let e = c.requires.degrees in omega arith),
          ),
        ),
      ),
    )

-- and so is the back half
pub multiply-requires-2 : goal.multiply-requires-2
multiply-requires-2 t c =
    let a = c.args.a.now in
    let b = c.args.b.now in
    let i = length a / 2 in
    let part = sym c.split_at.ensures.back in
    let some = some_terms _ _ c.is_empty.ensures c.if-is_empty.false in
    let smaller : length c.split_at.result.1.now < t = omega (arith, c.split_at.ensures.back_len, c.decreases) in (
      smaller,
      (
        subst (IsPolynomial nat_cmp integers) part (IsPolynomial-drop i a c.requires.sound_a),
        (
          c.requires.sound_b,
          (
            subst (λ (p : Polynomial). norm p * norm b ≤ MAX) part (rest_bound i a b c.requires.norms),
            subst (λ (p : Polynomial). poly_degree p + poly_degree b ≤ MAX_DEGREE) part
                (let d = degree-drop i a in let e = c.requires.degrees in omega arith),
          ),
        ),
      ),
    )

-- products fall, and their norms add up to no more than the bound on the whole
pub merge_moved-requires-clause-falls_a : goal.merge_moved-requires-clause-falls_a
merge_moved-requires-clause-falls_a t c =
    subst (IsCanonical before integers.amounts) (sym c.in_ok-front.ensures)
    (IsCanonical-product c.split_at.result.0.now c.args.b.now)

pub merge_moved-requires-clause-falls_b : goal.merge_moved-requires-clause-falls_b
merge_moved-requires-clause-falls_b t c =
    subst (IsCanonical before integers.amounts) (sym c.in_ok-back.ensures)
    (IsCanonical-product c.split_at.result.1.now c.args.b.now)

pub merge_moved-requires-clause-fits : goal.merge_moved-requires-clause-fits
merge_moved-requires-clause-fits t c =
    let a = c.args.a.now in
    let b = c.args.b.now in
    let i = length a / 2 in
    let times_b = λ (p : Polynomial). product_of p b in
    let front = c.in_ok-front.ensures ∙ ap times_b c.split_at.ensures.front in
    let back = c.in_ok-back.ensures ∙ ap times_b c.split_at.ensures.back in
    let norm_of = λ (p : Polynomial). norm p in
    omega (
      arith,
      parts_bound i a b c.requires.norms,
      ap norm_of front,
      ap norm_of back,
    )

-- the sum of the products of both halves
pub returns : goal.returns
returns t c =
    let a = c.args.a.now in
    let b = c.args.b.now in
    let i = length a / 2 in
    let times_b = λ (p : Polynomial). product_of p b in
    let front = c.in_ok-front.ensures ∙ ap times_b c.split_at.ensures.front in
    let back = c.in_ok-back.ensures ∙ ap times_b c.split_at.ensures.back in
    subst (λ (w : Polynomial). IfOk c.merge_moved.result (λ v. v.items ≡ w))
    ((λ k. sum_of (front k) (back k)) ∙ product_parts i a b) c.merge_moved.ensures
