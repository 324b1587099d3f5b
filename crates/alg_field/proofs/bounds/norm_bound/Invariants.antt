use Rattle.std.proofs.Common.{◌≡◌, ◌*◌, ◌<◌, ◌≤◌, drop}
use Rattle.alg_mono.specs.FiniteMaps.{Each}
use Rattle.alg_mono.specs.Polynomials.{MAX, norm}
use Rattle.alg_reify.specs.FactorMaps.{norms}
use Rattle.alg_field.proofs.bounds.norm_bound.Given as goal

-- what is out times what is left is all
abbrev pub invariant-loop-factor : goal.invariant-loop-factor
invariant-loop-factor l =
    (l.out * norms (drop l.factor-index l.list) ≡ l.initial.out * norms l.list)
    × (0 < l.out) × (l.out ≤ MAX) × Each (λ q. 0 < norm q) (drop l.factor-index l.list)
