use Rattle.std.proofs.Common.{take}
use Rattle.alg_poly.specs.Divisors.{IsContent}
use Rattle.alg_poly.proofs.content.content_of.Given as goal

abbrev pub invariant-loop-term : goal.invariant-loop-term
invariant-loop-term l = IsContent (take l.term-index l.terms) l.divisor
