use Rattle.std.proofs.Common.{◌≡◌, ◌+◌, ◌*◌, ◌<◌, ◌≤◌, drop}
use Rattle.alg_mono.specs.Monomials.{MAX_DEGREE}
use Rattle.alg_mono.specs.Outcomes.{norm_product}
use Rattle.alg_mono.specs.Polynomials.{MAX, norm, poly_degree}
use Rattle.alg_reify.specs.Preparing.{times_each}
use Rattle.alg_reify.proofs.ProductTurns.{degrees}
use Rattle.alg_nsatz.proofs.product.multiply.Given as goal

-- what is out times what is left is all, within the limits
abbrev pub invariant-loop-p : goal.invariant-loop-p
invariant-loop-p l = record {
  product : times_each l.out (drop l.p-index l.rest) ≡ times_each l.fn.first l.rest;
  some : 0 < norm_product (drop l.p-index l.rest);
  norms : norm l.out * norm_product (drop l.p-index l.rest) ≤ MAX;
  degrees : poly_degree l.out + degrees (drop l.p-index l.rest) ≤ MAX_DEGREE;
}
