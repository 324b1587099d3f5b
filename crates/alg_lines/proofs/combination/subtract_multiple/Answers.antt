use Rattle.std.specs.Prelude.{◌≡◌, ◌+◌, ◌*◌, ◌≤◌}
use Rattle.std.proofs.Common.{rules, sym, ap, subst, ◌∙◌}
use lib.IntN.{neg_ℤ}
use mir.Syntax.{w128}
use mir.Val.{SFits}
use Rattle.std.proofs.lemmas.Int.{to_z-of_z}
use Rattle.std.specs.Int.RustNames.{unsigned_abs}
use Rattle.alg_mono.specs.NumberedPolynomials.{sum_of, difference_of, multiple_of}
use Rattle.alg_mono.specs.Outcomes.{Outcome, sum_outcome, scale_outcome}
use Rattle.alg_mono.specs.Polynomials.{MAX, norm}
use Rattle.alg_mono.specs.Refusals.{RefusesWith}
use Rattle.alg_lines.proofs.Parts.{parts_add, refused, made, opposite_multiple, opposite_outcome, opposite_magnitude, always_fine}
use Rattle.alg_lines.proofs.combination.subtract_multiple.Goals as goal

pub returns-clause-difference : goal.returns-clause-difference
returns-clause-difference c =
    let b = c.args.b in
    let left = c.args.left.now in
    let n = c.args.n.now in
    let q = c.args.q.now in
    let fits_b : SFits w128 b = search rules in
    let fits : SFits w128 c.opposite.result = search rules in
    let is : c.opposite.result ≡ neg_ℤ b = simp to_z-of_z at c.opposite.ensures.value in
    let right = simp to_z-of_z at c.in_ok-right.ensures.multiple in
    made c.add.result (sum_of left c.in_ok-right.right) (difference_of left (multiple_of b n q))
    (ap (sum_of left) (right ∙ ap (λ k. multiple_of k n q) is
    ∙ opposite_multiple b n q c.terms.ensures.sound.polynomial))
    c.add.ensures.sum

pub returns-clause-refused : goal.returns-clause-refused
returns-clause-refused c =
    let b = c.args.b in
    let left = c.args.left.now in
    let n = c.args.n.now in
    let q = c.args.q.now in
    let fits_b : SFits w128 b = search rules in
    let fits : SFits w128 c.opposite.result = search rules in
    let is : c.opposite.result ≡ neg_ℤ b = simp to_z-of_z at c.opposite.ensures.value in
    let right = simp to_z-of_z at c.in_ok-right.ensures.multiple in
    let bound : norm left + unsigned_abs (neg_ℤ b) * norm q ≤ MAX =
    subst (λ k. norm left + k * norm q ≤ MAX) (sym (opposite_magnitude b)) c.requires.bound in
    let fine : sum_outcome left c.in_ok-right.right ≡ Outcome.Fine =
    ap (sum_outcome left) (right ∙ ap (λ k. multiple_of k n q) is) ∙ parts_add left (neg_ℤ b) n q bound in
    refused c.add.result _ (scale_outcome b n q) fine c.add.ensures.refused

pub returns-clause-fine : goal.returns-clause-fine
returns-clause-fine c =
    let b = c.args.b in
    let n = c.args.n.now in
    let q = c.args.q.now in
    let fits_b : SFits w128 b = search rules in
    let fits : SFits w128 c.opposite.result = search rules in
    let is : c.opposite.result ≡ neg_ℤ b = simp to_z-of_z at c.opposite.ensures.value in
    let fine = simp to_z-of_z at c.in_ok-right.ensures.fine in
    always_fine c.add.result (scale_outcome b n q)
    (sym (opposite_outcome b n q) ∙ ap (λ k. scale_outcome k n q) (sym is) ∙ fine)

pub returns-in_err-right-clause-refused : goal.returns-in_err-right-clause-refused
returns-in_err-right-clause-refused c =
    let b = c.args.b in
    let n = c.args.n.now in
    let q = c.args.q.now in
    let fits_b : SFits w128 b = search rules in
    let fits : SFits w128 c.opposite.result = search rules in
    let is : c.opposite.result ≡ neg_ℤ b = simp to_z-of_z at c.opposite.ensures.value in
    let tells = simp to_z-of_z at c.in_err-right.ensures.refused in
    let told : RefusesWith c.in_err-right.field-0.0 (scale_outcome b n q) =
    subst (RefusesWith c.in_err-right.field-0.0) (ap (λ k. scale_outcome k n q) is ∙ opposite_outcome b n q) tells in
    search (rules, told)
