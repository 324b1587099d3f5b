use Rattle.std.proofs.Common.{◌≡◌, take}
use Rattle.alg_mono.specs.Polynomials.{norm}
use Rattle.alg_poly.proofs.terms.norm_of.Given as goal

abbrev pub invariant-loop-term : goal.invariant-loop-term
invariant-loop-term l = l.sum ≡ norm (take l.term-index l.terms)
