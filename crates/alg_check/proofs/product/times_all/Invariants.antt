use Rattle.std.proofs.Common.{◌≡◌, ◌+◌, ◌*◌, ◌<◌, ◌≤◌, drop}
use Rattle.alg_mono.specs.Monomials.{MAX_DEGREE}
use Rattle.alg_mono.specs.Outcomes.{norm_product}
use Rattle.alg_mono.specs.Polynomials.{MAX, norm, poly_degree}
use Rattle.alg_reify.specs.Preparing.{times_each}
use Rattle.alg_reify.proofs.ProductTurns.{degrees}
use Rattle.alg_check.proofs.product.times_all.Given as goal

-- the product times what is left is all, within the limits
abbrev pub invariant-loop-factor : goal.invariant-loop-factor
invariant-loop-factor l = record {
  product : times_each l.product (drop l.factor-index l.rest) ≡ times_each l.fn.first l.rest;
  some : 0 < norm_product (drop l.factor-index l.rest);
  norms : norm l.product * norm_product (drop l.factor-index l.rest) ≤ MAX;
  degrees : poly_degree l.product + degrees (drop l.factor-index l.rest) ≤ MAX_DEGREE;
}
