use Rattle.std.proofs.Common.{◌≡◌, ◌+◌, take}
use Rattle.std.specs.Prelude.{sum_by}
use Rattle.alg_mono.specs.Monomials.{MAX_DEGREE}
use Rattle.alg_annotated.specs.Monomials.{exponent_of}
use Rattle.alg_annotated.proofs.monomials.are_too_many.Given as goal

-- what is left of the greatest degree after the factors so far
abbrev pub invariant-loop-factor : goal.invariant-loop-factor
invariant-loop-factor l = l.left + sum_by exponent_of (take l.factor-index l.factors) ≡ MAX_DEGREE
