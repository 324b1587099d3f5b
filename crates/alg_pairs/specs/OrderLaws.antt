-- The order of the pairs is a total order.
use Rattle.std.specs.Cmp.{IsTotalOrder, nat_cmp_total, then_total, on_total}
use Rattle.std.specs.FinMap.{nat_cmp-IsAntisymmetric}
use Rattle.alg_mono.proofs.Monomials.{grevlex_total}
use Rattle.alg_pairs.specs.Order.{pair_cmp}
use Rattle.alg_pairs.specs.declared.pair.Pair.{Pair}

pub pair_total : IsTotalOrder pair_cmp
pair_total =
    then_total (on_total (λ (x : Pair). x.lcm) (grevlex_total nat_cmp_total nat_cmp-IsAntisymmetric))
    (then_total (on_total (λ (x : Pair). x.j) nat_cmp_total) (on_total (λ (x : Pair). x.i) nat_cmp_total))
