use Rattle.alg_mono.specs.NumberedPolynomials.{Polynomial, difference_of}
use Rattle.alg_mono.specs.Outcomes.{sum_outcome}
use Rattle.alg_reify.proofs.Giving.{gives_after}
use Rattle.alg_field.proofs.fraction.subtracted.Goals as goal

-- both numerators were made
pub returns : goal.returns
returns c =
    let left = c.in_ok-left.ensures.left in
    let right = c.in_ok-left.ensures.right in
    let made = c.minus.ensures in
    gives_after (λ (q : Polynomial). q) _ _ _ _ _ c.minus.result c.in_ok-left.ensures.fine
    (λ i. difference_of (left i) (right i)) (λ i. sum_outcome (left i) (right i)) made.difference made.fine made.refused
