-- What the limits on norm and degree become along an operation.
use Rattle.std.specs.Prelude.{◌≡◌, ◌+◌}
use Rattle.std.proofs.Common.{ap, ◌∙◌}
use Rattle.alg_mono.specs.Outcomes.{outcome, sum_outcome}
use Rattle.alg_mono.specs.Polynomials.{norm, poly_neg}
use Rattle.alg_mono.proofs.Norms.{norm-poly_neg}
use Rattle.alg_mono.specs.NumberedPolynomials.{Polynomial}

-- a difference breaks a rule where the sum does
pub outcome_of_opposite : (p q r : Polynomial) → r ≡ poly_neg q → sum_outcome p r ≡ sum_outcome p q
outcome_of_opposite p q r e = ap (λ n. outcome (norm p + n) 0) (ap norm e ∙ norm-poly_neg q)
