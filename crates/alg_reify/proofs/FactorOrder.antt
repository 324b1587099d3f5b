-- The order of polynomials is total, and only equal ones tie.
use Rattle.std.specs.Cmp.{IsTotalOrder, nat_cmp_total}
use Rattle.std.specs.FinMap.{IsAntisymmetric, nat_cmp-IsAntisymmetric}
use Rattle.alg_meaning.specs.Orders.{over_total, over_anti}
use Rattle.alg_reify.specs.FactorMaps.{order}

pub order_total : IsTotalOrder order
order_total = over_total nat_cmp_total nat_cmp-IsAntisymmetric

pub order_anti : IsAntisymmetric order
order_anti p q h = over_anti nat_cmp_total nat_cmp-IsAntisymmetric p q h
