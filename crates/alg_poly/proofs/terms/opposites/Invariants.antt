use Rattle.std.proofs.Common.{◌≡◌, take}
use Rattle.alg_mono.specs.Polynomials.{poly_neg}
use Rattle.alg_poly.proofs.terms.opposites.Given as goal

abbrev pub invariant-loop-term : goal.invariant-loop-term
invariant-loop-term l = l.out.items ≡ poly_neg (take l.term-index l.terms)
