-- When a polynomial times factors is within the limits.
use Rattle.std.specs.Prelude.{◌≡◌, [], ◌+◌, ◌*◌, ◌<◌, ◌≤◌}
use Rattle.alg_mono.specs.FiniteMaps.{Each}
use Rattle.alg_mono.specs.Monomials.{MAX_DEGREE}
use Rattle.alg_mono.specs.NumberedPolynomials.{Polynomial, product_of}
use Rattle.alg_mono.specs.Polynomials.{MAX, norm, poly_degree}
use Rattle.alg_reify.specs.FactorMaps.{FactorMap, product, norms, degrees}

-- 1 changes nothing, no factor is zero, and the bounds are kept
pub record IsWithin (out : Polynomial) (rest : FactorMap) : Type 0 where
  pub times_one : product_of out (product []) ≡ out
  pub some : Each (λ q. 0 < norm q) rest
  pub light : norm out * norms rest ≤ MAX
  pub small : norms rest ≤ MAX
  pub low : poly_degree out + degrees rest ≤ MAX_DEGREE
