use Rattle.std.proofs.Common.{take}
use Rattle.std.specs.Prelude.{All}
use Rattle.std.specs.Ordering.{nat_cmp}
use Rattle.alg_mono.specs.Polynomials.{IsPoly}
use Rattle.alg_criterion.proofs.sure.are_polynomials.Given as goal

-- those so far are
abbrev pub invariant-loop-poly : goal.invariant-loop-poly
invariant-loop-poly l = All (λ p. IsPoly nat_cmp p) (take l.poly-index l.polys)
