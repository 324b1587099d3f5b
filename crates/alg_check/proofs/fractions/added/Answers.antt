use Rattle.alg_mono.specs.NumberedPolynomials.{Polynomial, sum_of}
use Rattle.alg_mono.specs.Outcomes.{sum_outcome}
use Rattle.alg_reify.proofs.Giving.{gives_after}
use Rattle.alg_check.proofs.fractions.added.Goals as goal

-- both numerators were made
pub returns-in-Ok : goal.returns-in-Ok
returns-in-Ok c =
    let are = c.in-Ok.ensures in
    let made = c.add.ensures in
    gives_after (λ (q : Polynomial). q) _ _ _ _ _ c.add.result are.1
    (λ i. sum_of (are.0 i).0 (are.0 i).1) (λ i. sum_outcome (are.0 i).0 (are.0 i).1) made.sum made.fine made.refused
