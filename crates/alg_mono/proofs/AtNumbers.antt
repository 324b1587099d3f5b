-- The laws for atoms by number.
use Rattle.std.proofs.Common.{arith}
use Rattle.std.specs.Ordering.{nat_cmp}
use Rattle.std.specs.Cmp.{nat_cmp_total, IsTotalOrder}
use Rattle.std.specs.FinMap.{nat_cmp-IsAntisymmetric, IsAntisymmetric}
use Rattle.alg_mono.specs.FiniteMaps.{IsCanonical}
use Rattle.alg_mono.specs.Numbers.{exponents}
use Rattle.alg_mono.specs.Monomials.{mono_times, mono_over}
use Rattle.alg_mono.specs.Laws.{PolynomialsAreARing, NoZeroDivisors, GrevlexIsItsWords, DivisionIsByProducts, LcmIsLeast}
use Rattle.alg_mono.proofs.Numbers.{integer_laws}
use Rattle.alg_mono.proofs.Monomials.{grevlex_total, grevlex_anti, mono_times_comm, mono_times_assoc}
use Rattle.alg_mono.proofs.TermOrder.{before_total, before_anti}
use Rattle.alg_mono.proofs.Powers.{one_product}
use Rattle.alg_mono.proofs.Grevlex.{falling-mono_times, grevlex_less, less_grevlex, kept}
use Rattle.alg_mono.proofs.Polynomials.{plus_assoc, plus_comm, zero_plus, times_poly_assoc, times_poly_comm, times_plus}
use Rattle.alg_mono.proofs.Renaming.{plus_opposite}
use Rattle.alg_mono.proofs.Domain.{no_zero_divisors}
use Rattle.alg_mono.proofs.Lcm.{times_over, divides_product, exponent-lcm}

o : IsTotalOrder nat_cmp
o = nat_cmp_total

anti : IsAntisymmetric nat_cmp
anti = nat_cmp-IsAntisymmetric

pub polynomials_are_a_ring : PolynomialsAreARing
polynomials_are_a_ring = record {
  plus_assoc = plus_assoc integer_laws before_total before_anti;
  plus_comm = plus_comm integer_laws before_total before_anti;
  plus_zero = λ p c. zero_plus integer_laws before_total before_anti p c.canonical;
  opposite = plus_opposite before_total before_anti;
  times_assoc = times_poly_assoc integer_laws before_total before_anti (mono_times nat_cmp) (mono_times_assoc o anti);
  times_comm = times_poly_comm integer_laws before_total before_anti (mono_times nat_cmp) (mono_times_comm o anti);
  times_one = one_product;
  distributes = times_plus integer_laws before_total before_anti (mono_times nat_cmp);
}

pub no_divisors_of_zero : NoZeroDivisors
no_divisors_of_zero p q c d =
    no_zero_divisors before_total before_anti (mono_times nat_cmp) (mono_times_comm o anti)
    (λ m. IsCanonical nat_cmp exponents m)
    (falling-mono_times o anti)
    p q c.canonical d.canonical c.monomials d.monomials

pub grevlex_is_its_words : GrevlexIsItsWords
grevlex_is_its_words = record {
  below = λ m n c d. (grevlex_less o anti m n c.canonical d.canonical, less_grevlex o anti m n c.canonical d.canonical);
  equal = grevlex_anti o anti;
  total = grevlex_total o anti;
  kept = λ m n k c d below. kept o anti m n k below;
}

pub division_is_by_products : DivisionIsByProducts
division_is_by_products = record {
  quotient = λ d m c divides. (mono_over nat_cmp m d, times_over o anti m d c.canonical divides);
  product = divides_product o anti;
}

pub lcm_is_least : LcmIsLeast
lcm_is_least = record {
  left = λ a b c k. let e = exponent-lcm o anti k a b c.canonical in grind (arith, e);
  right = λ a b c k. let e = exponent-lcm o anti k a b c.canonical in grind (arith, e);
  least = λ a b m c left right k. let e = exponent-lcm o anti k a b c.canonical in grind (arith, e, left k, right k);
}
