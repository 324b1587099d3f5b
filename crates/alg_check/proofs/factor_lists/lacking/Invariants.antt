use Rattle.std.proofs.Common.{◌≡◌, ◌-◌, take}
use Rattle.alg_mono.specs.NumberedPolynomials.{Polynomial}
use Rattle.alg_check.specs.Factors.{times_in}
use Rattle.alg_check.proofs.factor_lists.lacking.Given as goal

-- each is there as often less as it was looked at
abbrev pub invariant-loop-p : goal.invariant-loop-p
invariant-loop-p l =
    (q : Polynomial) → times_in q l.left.items ≡ times_in q l.other - times_in q (take l.p-index l.own)
