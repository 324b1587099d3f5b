-- Sums, products and powers of polynomials are polynomials, within the limits where no rule is broken.
use Rattle.std.specs.Prelude.{ℕ, zero, suc, ◌+◌, ◌*◌, ◌^◌, ◌≤◌, List, [], ◌∷◌, ◌++◌, ℤ}
use Rattle.std.proofs.Common.{arith}
use Rattle.std.specs.Int.RustNames.{unsigned_abs}
use Rattle.std.specs.declared.cmp.Ordering.{Ordering}
use Rattle.std.specs.Cmp.{IsTotalOrder}
use Rattle.std.specs.FinMap.{IsAntisymmetric}
use Rattle.alg_mono.specs.FiniteMaps.{Each, IsCanonical, products, rename, renamed}
use Rattle.alg_mono.specs.Numbers.{Numbers, exponents, integers}
use Rattle.alg_mono.specs.Monomials.{degree, falling, mono_times, MAX_DEGREE}
use Rattle.alg_mono.specs.Polynomials.{PolyOver, IsPolynomial, IsPoly, MAX, norm, poly_degree, poly_plus, poly_minus, poly_neg, poly_times, poly_term, poly_power, poly_scale}
use Rattle.alg_mono.proofs.Numbers.{IsNumbers, exponent_laws, integer_laws}
use Rattle.alg_mono.proofs.Canonical.{IsCanonical-collect, IsCanonical-keep}
use Rattle.alg_mono.proofs.Each.{Each-collect, Each-append, Each-products, Each-keep, Each-neg}
use Rattle.alg_mono.proofs.Grevlex.{falling_total, falling_anti}
use Rattle.alg_mono.proofs.Renaming.{IsCanonical-neg}
use Rattle.alg_mono.proofs.Norms.{norm-poly_plus, norm-poly_neg, norm-poly_term, norm-poly_times, norm-poly_scale, norm-poly_power}
use Rattle.alg_mono.proofs.Degrees.{degree-poly_plus, degree-poly_neg, degree-poly_term, degree-poly_times, degree-poly_scale, degree-poly_power}

module _ {K A : Type 0} {cmp : K → K →
    Ordering} {C : Numbers A} (N : IsNumbers C) (o : IsTotalOrder cmp) (anti : IsAntisymmetric cmp) where
  abbrev Poly : Type 0
  Poly = List (List (K × ℕ) × A)

  abbrev Is : Poly → Type 0
  Is p = IsPolynomial cmp C p

  abbrev Can : List (K × ℕ) → Type 0
  Can m = IsCanonical cmp exponents m

  pub IsPolynomial-plus : (p q : Poly) → Is p → Is q → Is (poly_plus (falling cmp) C p q)
  IsPolynomial-plus p q c d = record {
    canonical = IsCanonical-collect N.amounts (falling_total o anti) (falling_anti o anti) (p ++ q);
    monomials = Each-collect (falling cmp) C.amounts Can (p ++ q) (Each-append Can p q c.monomials d.monomials);
  }

  pub IsPolynomial-times : (p q : Poly) → Is p → Is q → Is (poly_times (falling cmp) C (mono_times cmp) p q)
  IsPolynomial-times p q c d = record {
    canonical =
        IsCanonical-collect N.amounts (falling_total o anti) (falling_anti o anti)
        (products (mono_times cmp) C.mul p q);
    monomials = Each-collect (falling cmp) C.amounts Can (products (mono_times cmp) C.mul p q)
        (Each-products (mono_times cmp) C.mul Can Can Can
        (λ m n h g. IsCanonical-collect exponent_laws o anti (m ++ n)) p q c.monomials d.monomials);
  }

  pub IsPolynomial-term : (m : List (K × ℕ)) (c : A) → Can m → Is (poly_term (falling cmp) C m c)
  IsPolynomial-term m c h = record {
    canonical =
        IsCanonical-keep N.amounts (falling_total o anti) (falling_anti o anti) m c [] tt record
        { rises = tt; no_none = tt };
    monomials = Each-keep (falling cmp) C.amounts Can m c [] h tt;
  }

  pub IsPolynomial-scale : (c : A) (m : List (K × ℕ)) (p : Poly) → Can m → Is p →
      Is (poly_scale (falling cmp) C (mono_times cmp) c m p)
  IsPolynomial-scale c m p h d = IsPolynomial-times (poly_term (falling cmp) C m c) p (IsPolynomial-term m c h) d

  pub IsPolynomial-power : (p : Poly) (n : ℕ) → Is p → Is (poly_power (falling cmp) C [] (mono_times cmp) p n)
  IsPolynomial-power p zero c = IsPolynomial-term [] C.one record { rises = tt; no_none = tt }
  IsPolynomial-power p (suc n) c =
      IsPolynomial-times p (poly_power (falling cmp) C [] (mono_times cmp) p n) c (IsPolynomial-power p n c)

  pub IsPolynomial-rename : {L : Type 0} (f : List (L × ℕ) → List (K × ℕ)) → ((m : List (L × ℕ)) → Can (f m)) →
      (p : List (List (L × ℕ) × A)) → Is (rename (falling cmp) C.amounts f p)
  IsPolynomial-rename {L} f each p = record {
    canonical = IsCanonical-collect N.amounts (falling_total o anti) (falling_anti o anti) (renamed f p);
    monomials = Each-collect (falling cmp) C.amounts Can (renamed f p) (all p);
  }
    where
      all : (q : List (List (L × ℕ) × A)) → Each Can (renamed f q)
      all [] = tt
      all (e ∷ q) = (each e.0, all q)

module _ {K : Type 0} {cmp : K → K → Ordering} (o : IsTotalOrder cmp) (anti : IsAntisymmetric cmp) where
  pub IsPolynomial-neg : (p : PolyOver K) → IsPolynomial cmp integers p → IsPolynomial cmp integers (poly_neg p)
  IsPolynomial-neg p c = record {
    canonical = IsCanonical-neg (falling cmp) p c.canonical;
    monomials = Each-neg (λ m. IsCanonical cmp exponents m) p c.monomials;
  }

  pub IsPoly-plus : (p q : PolyOver K) → IsPoly cmp p → IsPoly cmp q → norm p + norm q ≤ MAX →
      IsPoly cmp (poly_plus (falling cmp) integers p q)
  IsPoly-plus p q c d h = record {
    polynomial = IsPolynomial-plus integer_laws o anti p q c.polynomial d.polynomial;
    bounded = omega (arith, norm-poly_plus (falling cmp) p q);
    small = let a = c.small in let b = d.small in grind (arith, degree-poly_plus integers o anti p q);
  }

  pub IsPoly-neg : (p : PolyOver K) → IsPoly cmp p → IsPoly cmp (poly_neg p)
  IsPoly-neg p c = record {
    polynomial = IsPolynomial-neg p c.polynomial;
    bounded = let a = c.bounded in omega (arith, norm-poly_neg p);
    small = let a = c.small in omega (arith, degree-poly_neg p);
  }

  pub IsPoly-minus : (p q : PolyOver K) → IsPoly cmp p → IsPoly cmp q → norm p + norm q ≤ MAX →
      IsPoly cmp (poly_minus (falling cmp) p q)
  IsPoly-minus p q c d h = IsPoly-plus p (poly_neg q) c (IsPoly-neg q d) (omega (arith, norm-poly_neg q))

  pub IsPoly-times : (p q : PolyOver K) → IsPoly cmp p → IsPoly cmp q → norm p * norm q ≤ MAX →
      poly_degree p + poly_degree q ≤ MAX_DEGREE →
      IsPoly cmp (poly_times (falling cmp) integers (mono_times cmp) p q)
  IsPoly-times p q c d h g = record {
    polynomial = IsPolynomial-times integer_laws o anti p q c.polynomial d.polynomial;
    bounded = omega (arith, norm-poly_times (falling cmp) (mono_times cmp) p q);
    small = omega (arith, degree-poly_times integers o anti p q);
  }

  pub IsPoly-term : (m : List (K × ℕ)) (c : ℤ) → IsCanonical cmp exponents m → degree m ≤ MAX_DEGREE →
      unsigned_abs c ≤ MAX →
      IsPoly cmp (poly_term (falling cmp) integers m c)
  IsPoly-term m c k h g = record {
    polynomial = IsPolynomial-term integer_laws o anti m c k;
    bounded = omega (arith, norm-poly_term (falling cmp) m c);
    small = omega (arith, degree-poly_term integers o anti m c);
  }

  pub IsPoly-scale : (c : ℤ) (m : List (K × ℕ)) (p : PolyOver K) → IsCanonical cmp exponents m → IsPoly cmp p →
      unsigned_abs c * norm p ≤ MAX → degree m + poly_degree p ≤ MAX_DEGREE →
      IsPoly cmp (poly_scale (falling cmp) integers (mono_times cmp) c m p)
  IsPoly-scale c m p k d h g = record {
    polynomial = IsPolynomial-scale integer_laws o anti c m p k d.polynomial;
    bounded = omega (arith, norm-poly_scale (falling cmp) (mono_times cmp) c m p);
    small = omega (arith, degree-poly_scale integers o anti c m p);
  }

  pub IsPoly-power : (p : PolyOver K) (n : ℕ) → IsPoly cmp p → norm p ^ n ≤ MAX → n * poly_degree p ≤ MAX_DEGREE →
      IsPoly cmp (poly_power (falling cmp) integers [] (mono_times cmp) p n)
  IsPoly-power p n c h g = record {
    polynomial = IsPolynomial-power integer_laws o anti p n c.polynomial;
    bounded = omega (arith, norm-poly_power (falling cmp) (mono_times cmp) [] p n);
    small = omega (arith, degree-poly_power integers o anti p n);
  }
