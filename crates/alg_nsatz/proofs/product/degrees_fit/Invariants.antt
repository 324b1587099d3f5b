use Rattle.std.proofs.Common.{◌≡◌, ◌+◌, ◌≤◌, drop}
use Rattle.alg_mono.specs.Monomials.{MAX_DEGREE}
use Rattle.alg_mono.specs.Polynomials.{poly_degree}
use Rattle.alg_reify.proofs.ProductTurns.{degrees}
use Rattle.alg_nsatz.proofs.product.degrees_fit.Given as goal

-- the degree and what is left are all
abbrev pub invariant-loop-p : goal.invariant-loop-p
invariant-loop-p l =
    (l.degree + degrees (drop l.p-index l.rest) ≡ poly_degree l.first + degrees l.rest) × (l.degree ≤ MAX_DEGREE)
