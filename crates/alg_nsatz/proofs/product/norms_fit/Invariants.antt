use Rattle.std.proofs.Common.{◌≡◌, ◌*◌, ◌<◌, ◌≤◌, drop}
use Rattle.alg_mono.specs.Outcomes.{norm_product}
use Rattle.alg_mono.specs.Polynomials.{MAX, norm}
use Rattle.alg_nsatz.proofs.product.norms_fit.Given as goal

-- the bound times what is left is all
abbrev pub invariant-loop-p : goal.invariant-loop-p
invariant-loop-p l =
    (l.bound * norm_product (drop l.p-index l.rest) ≡ norm l.first * norm_product l.rest)
    × (0 < norm_product (drop l.p-index l.rest)) × (l.bound ≤ MAX)
