use Rattle.std.proofs.Common.{◌≡◌, ◌+◌, ◌≤◌, drop}
use Rattle.alg_mono.specs.NumberedPolynomials.{Polynomial}
use Rattle.alg_reify.specs.FactorMaps.{exponent_of}
use Rattle.alg_field.specs.Lists.{MAX_POWER, IsList, put_all}
use Rattle.alg_field.proofs.lists.put_factors.Given as goal

-- what is left goes into what is out
abbrev pub invariant-loop-factor : goal.invariant-loop-factor
invariant-loop-factor l =
    (put_all l.out.items (drop l.factor-index l.list) ≡ put_all l.initial.out.items l.list)
    × IsList l.out.items
    × ((q : Polynomial) → exponent_of q l.out.items + exponent_of q (drop l.factor-index l.list) ≤ MAX_POWER)
