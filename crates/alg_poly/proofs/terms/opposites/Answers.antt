use Rattle.std.specs.Prelude.{◌≡◌, ◌++◌, ◌∷◌, [], ℤ, pos, ◌-ℤ◌, ◌≤◌, unsigned_abs}
use Rattle.std.proofs.Common.{arith, rules, ap, sym, ◌∙◌}
use lib.IntN.{neg_ℤ}
use mir.Syntax.{w128}
use mir.Val.{SFits}
use Rattle.std.proofs.lemmas.Int.{ints, to_z-of_z}
use Rattle.alg_mono.specs.Polynomials.{MAX}
use Rattle.alg_mono.specs.Mono.{Monomial}
use Rattle.alg_mono.proofs.TermBounds.{coefficient_small}
use Rattle.alg_poly.proofs.Turns.{poly_neg-more}
use Rattle.alg_poly.proofs.terms.opposites.Goals as goal

pub loop-term-preserved : goal.loop-term-preserved
loop-term-preserved c =
    let x = c.term-item.result in
    let i = c.loop-term.term-index in
    let small : unsigned_abs x.1 ≤ MAX =
    let h = coefficient_small c.args.terms.now i x (omega arith) c.term-item.is in omega arith in
    let fits : SFits w128 x.1 = search rules in
    let opposite_fits : SFits w128 (pos 0 -ℤ x.1) = search (rules, small) in
    let opposite : pos 0 -ℤ x.1 ≡ neg_ℤ x.1 = omega (arith, ints) in
    let pushed = simp to_z-of_z at c.in_ok-push.ensures.items in
    pushed
    ∙ ap (λ (m : Monomial). c.loop-term.out.items ++ (m, pos 0 -ℤ x.1) ∷ []) c.in_ok-copy.ensures
    ∙ ap (λ (z : ℤ). c.loop-term.out.items ++ (x.0, z) ∷ []) opposite
    ∙ ap (λ r. r ++ (x.0, neg_ℤ x.1) ∷ []) c.loop-term.invariant
    ∙ sym (poly_neg-more c.args.terms.now i x (omega arith) c.term-item.is)
