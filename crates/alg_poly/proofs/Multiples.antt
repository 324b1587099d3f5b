-- A multiple of a polynomial within the limits is one, whatever the monomial.
use Rattle.std.specs.Prelude.{◌+◌, ◌*◌, ◌≤◌, [], ◌∷◌, ◌++◌, ℤ, ◌*ℤ◌}
use Rattle.std.proofs.Common.{arith}
use Rattle.std.specs.Int.RustNames.{unsigned_abs}
use Rattle.std.specs.Ordering.{nat_cmp}
use Rattle.std.specs.Cmp.{nat_cmp_total}
use Rattle.std.specs.FinMap.{nat_cmp-IsAntisymmetric}
use Rattle.alg_mono.specs.FiniteMaps.{Each, IsCanonical, products}
use Rattle.alg_mono.specs.Monomials.{degree, mono_times, MAX_DEGREE}
use Rattle.alg_mono.specs.Numbers.{exponents, integers}
use Rattle.alg_mono.specs.Polynomials.{IsPoly, MAX, norm, poly_degree}
use Rattle.alg_mono.proofs.Canonical.{IsCanonical-collect}
use Rattle.alg_mono.proofs.Degrees.{degree-poly_scale}
use Rattle.alg_mono.proofs.Each.{Each-collect, Each-products}
use Rattle.alg_mono.proofs.Norms.{norm-poly_scale}
use Rattle.alg_mono.proofs.Numbers.{exponent_laws}
use Rattle.alg_mono.specs.Mono.{Monomial}
use Rattle.alg_mono.specs.NumberedPolynomials.{Polynomial, before, term_of, multiple_of}
use Rattle.alg_poly.proofs.Parts.{IsCanonical-product}

every : (p : Polynomial) → Each (λ _. Unit {0}) p
every [] = tt
every (e ∷ p) = (tt, every p)

pub IsPoly-multiple : (c : ℤ) (m : Monomial) (p : Polynomial) → unsigned_abs c * norm p ≤ MAX →
    degree m + poly_degree p ≤ MAX_DEGREE → IsPoly nat_cmp (multiple_of c m p)
IsPoly-multiple c m p h g = record {
  polynomial = record {
    canonical = IsCanonical-product (term_of m c) p;
    monomials =
        let Well = λ (n : Monomial). IsCanonical nat_cmp exponents n in
        Each-collect before integers.amounts Well (products (mono_times nat_cmp) ◌*ℤ◌ (term_of m c) p)
        (Each-products (mono_times nat_cmp) ◌*ℤ◌ (λ _. Unit {0}) (λ _. Unit {0}) Well
        (λ k n _ _. IsCanonical-collect exponent_laws nat_cmp_total nat_cmp-IsAntisymmetric (k ++ n))
        (term_of m c) p (every (term_of m c)) (every p));
  };
  bounded = omega (arith, norm-poly_scale before (mono_times nat_cmp) c m p);
  small = omega (arith, degree-poly_scale integers nat_cmp_total nat_cmp-IsAntisymmetric c m p);
}
