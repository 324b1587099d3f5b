use Rattle.std.proofs.Common.{◌≡◌, ◌+◌, take}
use Rattle.alg_mono.specs.Monomials.{degree, MAX_DEGREE}
use Rattle.alg_mono.proofs.from_pairs.is_too_great.Given as goal

-- what is left of the limit after the pairs so far
abbrev pub invariant-loop-pair : goal.invariant-loop-pair
invariant-loop-pair l = l.left + degree (take l.pair-index l.pairs) ≡ MAX_DEGREE
