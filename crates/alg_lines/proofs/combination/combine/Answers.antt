use Rattle.std.specs.Prelude.{◌≡◌, ◌+◌, ◌*◌, ◌≤◌, pos}
use Rattle.std.proofs.Common.{rules, sym, ap, ◌∙◌}
use mir.Syntax.{w128}
use mir.Val.{SFits}
use Rattle.std.proofs.lemmas.Int.{to_z-of_z}
use Rattle.std.specs.Int.RustNames.{unsigned_abs}
use Rattle.alg_mono.specs.NumberedPolynomials.{Polynomial, difference_of, multiple_of}
use Rattle.alg_mono.specs.Outcomes.{scale_outcome, combine_outcome}
use Rattle.alg_mono.specs.Polynomials.{MAX, norm}
use Rattle.alg_lines.specs.Lines.{combination}
use Rattle.alg_lines.proofs.Parts.{made, fine_made, told, one_multiple, one_fine, left_bound, both_outcomes}
use Rattle.alg_lines.proofs.combination.combine.Goals as goal

-- ---- p is not changed
pub returns-then-are_one-clause-combination : goal.returns-then-are_one-clause-combination
returns-then-are_one-clause-combination c =
    let a = c.args.a in
    let b = c.args.b in
    let m = c.args.m.now in
    let n = c.args.n.now in
    let p = c.args.p.now in
    let q = c.args.q.now in
    let a_in : SFits w128 a = search rules in
    let b_in : SFits w128 b = search rules in
    let is = c.are_one.ensures.0 c.if-are_one.true in
    let number : a ≡ pos 1 = simp to_z-of_z at is.0 in
    let whole = (λ i. multiple_of (number i) (is.1 i) p) ∙ one_multiple p c.terms.ensures.sound.polynomial in
    let difference = simp to_z-of_z at c.subtract_multiple.ensures.difference in
    made c.subtract_multiple.result (difference_of p (multiple_of b n q)) (combination a m p b n q)
    (ap (λ (l : Polynomial). difference_of l (multiple_of b n q)) (sym whole)) difference

pub returns-then-are_one-clause-fine : goal.returns-then-are_one-clause-fine
returns-then-are_one-clause-fine c =
    let a = c.args.a in
    let b = c.args.b in
    let m = c.args.m.now in
    let n = c.args.n.now in
    let p = c.args.p.now in
    let q = c.args.q.now in
    let a_in : SFits w128 a = search rules in
    let b_in : SFits w128 b = search rules in
    let fits : unsigned_abs a * norm p + unsigned_abs b * norm q ≤ MAX = search rules in
    let is = c.are_one.ensures.0 c.if-are_one.true in
    let number : a ≡ pos 1 = simp to_z-of_z at is.0 in
    let fine = (λ i. scale_outcome (number i) (is.1 i) p) ∙ one_fine p c.terms.ensures.sound.bounded
    c.terms.ensures.sound.small in
    let both = both_outcomes a m p b n q fits fine in
    fine_made c.subtract_multiple.result (scale_outcome b n q) (combine_outcome a m p b n q) both
    (simp to_z-of_z at c.subtract_multiple.ensures.fine)

pub returns-then-are_one-clause-refused : goal.returns-then-are_one-clause-refused
returns-then-are_one-clause-refused c =
    let a = c.args.a in
    let b = c.args.b in
    let m = c.args.m.now in
    let n = c.args.n.now in
    let p = c.args.p.now in
    let q = c.args.q.now in
    let a_in : SFits w128 a = search rules in
    let b_in : SFits w128 b = search rules in
    let fits : unsigned_abs a * norm p + unsigned_abs b * norm q ≤ MAX = search rules in
    let is = c.are_one.ensures.0 c.if-are_one.true in
    let number : a ≡ pos 1 = simp to_z-of_z at is.0 in
    let fine = (λ i. scale_outcome (number i) (is.1 i) p) ∙ one_fine p c.terms.ensures.sound.bounded
    c.terms.ensures.sound.small in
    let both = both_outcomes a m p b n q fits fine in
    told c.subtract_multiple.result (scale_outcome b n q) (combine_outcome a m p b n q) both
    (simp to_z-of_z at c.subtract_multiple.ensures.refused)

-- ---- p is multiplied
pub subtract_multiple-requires-2-clause-bound : goal.subtract_multiple-requires-2-clause-bound
subtract_multiple-requires-2-clause-bound c =
    let a = c.args.a in
    let b = c.args.b in
    let m = c.args.m.now in
    let n = c.args.n.now in
    let p = c.args.p.now in
    let q = c.args.q.now in
    let a_in : SFits w128 a = search rules in
    let b_in : SFits w128 b = search rules in
    let fits : unsigned_abs a * norm p + unsigned_abs b * norm q ≤ MAX = search rules in
    let left = simp to_z-of_z at c.in_ok-left.ensures.multiple in
    simp to_z-of_z (left_bound a m p c.in_ok-left.left (unsigned_abs b * norm q) left fits)

pub returns-clause-fine : goal.returns-clause-fine
returns-clause-fine c =
    let a = c.args.a in
    let b = c.args.b in
    let m = c.args.m.now in
    let n = c.args.n.now in
    let p = c.args.p.now in
    let q = c.args.q.now in
    let a_in : SFits w128 a = search rules in
    let b_in : SFits w128 b = search rules in
    let fits : unsigned_abs a * norm p + unsigned_abs b * norm q ≤ MAX = search rules in
    let fine = simp to_z-of_z at c.in_ok-left.ensures.fine in
    let both = both_outcomes a m p b n q fits fine in
    fine_made c.subtract_multiple-2.result (scale_outcome b n q) (combine_outcome a m p b n q) both
    (simp to_z-of_z at c.subtract_multiple-2.ensures.fine)

pub returns-clause-refused : goal.returns-clause-refused
returns-clause-refused c =
    let a = c.args.a in
    let b = c.args.b in
    let m = c.args.m.now in
    let n = c.args.n.now in
    let p = c.args.p.now in
    let q = c.args.q.now in
    let a_in : SFits w128 a = search rules in
    let b_in : SFits w128 b = search rules in
    let fits : unsigned_abs a * norm p + unsigned_abs b * norm q ≤ MAX = search rules in
    let fine = simp to_z-of_z at c.in_ok-left.ensures.fine in
    let both = both_outcomes a m p b n q fits fine in
    told c.subtract_multiple-2.result (scale_outcome b n q) (combine_outcome a m p b n q) both
    (simp to_z-of_z at c.subtract_multiple-2.ensures.refused)
