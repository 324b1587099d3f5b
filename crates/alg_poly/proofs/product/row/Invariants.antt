use Rattle.std.proofs.Common.{◌≡◌, take}
use Rattle.alg_mono.specs.NumberedPolynomials.{row_of}
use Rattle.alg_poly.proofs.product.row.Given as goal

abbrev pub invariant-loop-term : goal.invariant-loop-term
invariant-loop-term l = l.out.items ≡ row_of l.m l.c (take l.term-index l.terms)
