use Rattle.std.proofs.Common.{◌≡◌, ◌+◌, ◌≤◌, drop}
use Rattle.alg_mono.specs.Monomials.{MAX_DEGREE}
use Rattle.alg_field.specs.Lists.{IsList}
use Rattle.alg_reify.specs.FactorMaps.{degrees}
use Rattle.alg_field.proofs.bounds.degree_bound.Given as goal

-- what is out with what is left is all
abbrev pub invariant-loop-factor : goal.invariant-loop-factor
invariant-loop-factor l =
    (l.out + degrees (drop l.factor-index l.list) ≡ l.initial.out + degrees l.list)
    × (l.out ≤ MAX_DEGREE) × IsList (drop l.factor-index l.list)
