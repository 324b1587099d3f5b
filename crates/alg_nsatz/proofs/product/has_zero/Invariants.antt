use Rattle.std.proofs.Common.{◌≡◌, ◌<◌, drop}
use Rattle.alg_mono.specs.Outcomes.{has_zero, norm_product}
use Rattle.alg_nsatz.proofs.product.has_zero.Given as goal

-- what is left decides
abbrev pub invariant-loop-p : goal.invariant-loop-p
invariant-loop-p l =
    (has_zero (drop l.p-index l.ps) ≡ has_zero l.ps)
    × (0 < norm_product (drop l.p-index l.ps) → 0 < norm_product l.ps)
