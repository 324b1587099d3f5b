use Rattle.std.proofs.Common.{◌≡◌, drop}
use Rattle.alg_mono.specs.NumberedPolynomials.{product_of}
use Rattle.alg_reify.specs.FactorMaps.{product}
use Rattle.alg_field.specs.Within.{IsWithin}
use Rattle.alg_field.proofs.multiply.times_powers.Given as goal

-- what is out times what is left is all
abbrev pub invariant-loop-factor : goal.invariant-loop-factor
invariant-loop-factor l =
    (product_of l.out (product (drop l.factor-index l.list))
    ≡ product_of l.initial.out (product l.list))
    × IsWithin l.out (drop l.factor-index l.list)
