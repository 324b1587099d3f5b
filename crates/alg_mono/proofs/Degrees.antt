-- The degree of a sum is at most the greater degree, and that of a product at most the sum.
use Rattle.std.specs.Prelude.{◌≡◌, ℕ, zero, suc, ◌+◌, ◌*◌, ◌≤◌, max, List, [], ◌∷◌, ◌++◌, ℤ}
use Rattle.std.proofs.Common.{refl, ap, subst, arith}
use Rattle.std.specs.declared.cmp.Ordering.{Ordering}
use Rattle.std.specs.Cmp.{IsTotalOrder}
use Rattle.std.specs.FinMap.{IsAntisymmetric}
use Rattle.alg_mono.specs.FiniteMaps.{Each, products}
use Rattle.alg_mono.specs.Numbers.{Numbers, integers}
use Rattle.alg_mono.specs.Monomials.{degree, falling, mono_times}
use Rattle.alg_mono.specs.Polynomials.{poly_degree, poly_plus, poly_minus, poly_neg, poly_times, poly_term, poly_power, poly_scale}
use Rattle.alg_mono.proofs.Each.{Each-collect, Each-append, Each-products, Each-keep}
use Rattle.alg_mono.proofs.Monomials.{degree-mono_times}

module _ {K A : Type 0} where
  abbrev pub DegreesWithin : ℕ → List (List (K × ℕ) × A) → Type 0
  DegreesWithin d p = Each (λ m. degree m ≤ d) p

  pub degrees_within : (d : ℕ) (p : List (List (K × ℕ) × A)) → poly_degree p ≤ d → DegreesWithin d p
  degrees_within d [] h = tt
  degrees_within d (e ∷ p) h = (grind (arith, h), degrees_within d p (grind (arith, h)))

  pub degree_within : (d : ℕ) (p : List (List (K × ℕ) × A)) → DegreesWithin d p → poly_degree p ≤ d
  degree_within d [] h = omega arith
  degree_within d (e ∷ p) h = let first = h.0 in let rest = degree_within d p h.1 in grind (arith, first, rest)

module _ {K : Type 0} where
  pub degree-poly_neg : (p : List (List (K × ℕ) × ℤ)) → poly_degree (poly_neg p) ≡ poly_degree p
  degree-poly_neg [] = refl
  degree-poly_neg (e ∷ p) = ap (max (degree e.0)) (degree-poly_neg p)

module _ {K A : Type 0} {cmp : K → K →
    Ordering} (C : Numbers A) (o : IsTotalOrder cmp) (anti : IsAntisymmetric cmp) where
  pub degree-poly_plus : (p q : List (List (K × ℕ) × A)) →
      poly_degree (poly_plus (falling cmp) C p q) ≤ max (poly_degree p) (poly_degree q)
  degree-poly_plus p q =
      let d = max (poly_degree p) (poly_degree q) in
      degree_within d (poly_plus (falling cmp) C p q)
      (Each-collect (falling cmp) C.amounts (λ m. degree m ≤ d) (p ++ q)
      (Each-append (λ m. degree m ≤ d) p q (degrees_within d p (grind arith)) (degrees_within d q (grind arith))))

  pub degree-poly_times : (p q : List (List (K × ℕ) × A)) →
      poly_degree (poly_times (falling cmp) C (mono_times cmp) p q) ≤ poly_degree p + poly_degree q
  degree-poly_times p q =
      let a = poly_degree p in
      let b = poly_degree q in
      degree_within (a + b) (poly_times (falling cmp) C (mono_times cmp) p q)
      (Each-collect (falling cmp) C.amounts (λ m. degree m ≤ a + b) (products (mono_times cmp) C.mul p q)
      (Each-products (mono_times cmp) C.mul (λ m. degree m ≤ a) (λ m. degree m ≤ b) (λ m. degree m ≤ a + b)
      (λ m n h g. omega (arith, degree-mono_times o anti m n))
      p q (degrees_within a p (omega arith)) (degrees_within b q (omega arith))))

  pub degree-poly_term : (m : List (K × ℕ)) (c : A) → poly_degree (poly_term (falling cmp) C m c) ≤ degree m
  degree-poly_term m c =
      degree_within (degree m) (poly_term (falling cmp) C m c)
      (Each-keep (falling cmp) C.amounts (λ n. degree n ≤ degree m) m c [] (omega arith) tt)

  pub degree-poly_scale : (c : A) (m : List (K × ℕ)) (p : List (List (K × ℕ) × A)) →
      poly_degree (poly_scale (falling cmp) C (mono_times cmp) c m p) ≤ degree m + poly_degree p
  degree-poly_scale c m p =
      omega (arith, degree-poly_times (poly_term (falling cmp) C m c) p, degree-poly_term m c)

  pub degree-poly_power : (p : List (List (K × ℕ) × A)) (n : ℕ) →
      poly_degree (poly_power (falling cmp) C [] (mono_times cmp) p n) ≤ n * poly_degree p
  degree-poly_power p zero = omega (arith, degree-poly_term [] C.one)
  degree-poly_power p (suc n) =
      omega (arith, degree-poly_times p (poly_power (falling cmp) C [] (mono_times cmp) p n), degree-poly_power p n)

module _ {K : Type 0} {cmp : K → K → Ordering} (o : IsTotalOrder cmp) (anti : IsAntisymmetric cmp) where
  pub degree-poly_minus : (p q : List (List (K × ℕ) × ℤ)) →
      poly_degree (poly_minus (falling cmp) p q) ≤ max (poly_degree p) (poly_degree q)
  degree-poly_minus p q =
      subst (λ d. poly_degree (poly_minus (falling cmp) p q) ≤ max (poly_degree p) d) (degree-poly_neg q)
      (degree-poly_plus integers o anti p (poly_neg q))
