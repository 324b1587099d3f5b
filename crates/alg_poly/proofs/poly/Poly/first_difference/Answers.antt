use Rattle.std.proofs.Common.{sym, subst}
use Rattle.alg_mono.specs.FiniteMaps.{IsCanonical}
use Rattle.alg_mono.specs.Numbers.{integers}
use Rattle.alg_mono.specs.NumberedPolynomials.{before}
use Rattle.alg_poly.proofs.poly.Poly.first_difference.Goals as goal

pub first_difference_of-requires-clause-falls_a : goal.first_difference_of-requires-clause-falls_a
first_difference_of-requires-clause-falls_a c =
    subst (IsCanonical before integers.amounts) (sym c.deref.ensures.value) c.self.invariant.polynomial.canonical

pub first_difference_of-requires-clause-falls_b : goal.first_difference_of-requires-clause-falls_b
first_difference_of-requires-clause-falls_b c =
    subst (IsCanonical before integers.amounts) (sym c.deref-2.ensures.value) c.other.invariant.polynomial.canonical
