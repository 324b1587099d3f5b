-- The order in which pairs are taken.
use Rattle.std.specs.declared.cmp.Ordering.{Ordering}
use Rattle.std.specs.Ordering.{nat_cmp, ordering_then}
use Rattle.alg_mono.specs.Monomials.{grevlex}
use Rattle.alg_pairs.specs.declared.pair.Pair.{Pair}

-- by the least common multiple in grevlex, then by j, then by i
abbrev pub pair_cmp : Pair → Pair → Ordering
pair_cmp x y = ordering_then (grevlex nat_cmp x.lcm y.lcm) (ordering_then (nat_cmp x.j y.j) (nat_cmp x.i y.i))
