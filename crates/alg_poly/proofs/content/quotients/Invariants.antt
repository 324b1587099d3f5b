use Rattle.std.proofs.Common.{◌≡◌, take}
use Rattle.alg_poly.specs.Divisors.{times_number}
use Rattle.alg_poly.proofs.content.quotients.Given as goal

abbrev pub invariant-loop-term : goal.invariant-loop-term
invariant-loop-term l = times_number l.d l.out.items ≡ take l.term-index l.terms
