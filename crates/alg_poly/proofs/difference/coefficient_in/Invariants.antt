use Rattle.std.proofs.Common.{◌≡◌, drop}
use Rattle.alg_mono.specs.NumberedPolynomials.{coefficient_of}
use Rattle.alg_poly.proofs.difference.coefficient_in.Given as goal

abbrev pub invariant-loop-term : goal.invariant-loop-term
invariant-loop-term l = coefficient_of l.m (drop l.term-index l.terms) ≡ coefficient_of l.m l.terms
