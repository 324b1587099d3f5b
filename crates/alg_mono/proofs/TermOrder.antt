-- The order of the terms is total, and only equal monomials tie.
use Rattle.std.specs.Cmp.{IsTotalOrder, nat_cmp_total}
use Rattle.std.specs.FinMap.{IsAntisymmetric, nat_cmp-IsAntisymmetric}
use Rattle.alg_mono.proofs.Grevlex.{falling_total, falling_anti}
use Rattle.alg_mono.specs.NumberedPolynomials.{before}

pub before_total : IsTotalOrder before
before_total = falling_total nat_cmp_total nat_cmp-IsAntisymmetric

pub before_anti : IsAntisymmetric before
before_anti = falling_anti nat_cmp_total nat_cmp-IsAntisymmetric
