use Rattle.std.proofs.Common.{sym, subst}
use Rattle.alg_mono.specs.FiniteMaps.{IsCanonical}
use Rattle.alg_mono.specs.Numbers.{integers}
use Rattle.alg_mono.specs.NumberedPolynomials.{before}
use Rattle.alg_poly.proofs.poly.Poly.coefficient.Goals as goal

pub coefficient_in-requires : goal.coefficient_in-requires
coefficient_in-requires c =
    subst (IsCanonical before integers.amounts) (sym c.deref.ensures.value) c.self.invariant.polynomial.canonical
