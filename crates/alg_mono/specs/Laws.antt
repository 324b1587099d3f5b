-- What holds of the definitions alone.
use Rattle.std.specs.Prelude.{◌≡◌, ◌≢◌, ◌↔◌, ℕ, ℤ, pos, ◌+ℤ◌, ◌*ℤ◌, List, [], ◌∷◌, cond}
use lib.IntN.{neg_ℤ}
use Rattle.std.specs.declared.cmp.Ordering.{Ordering}
use Rattle.std.specs.declared.cmp.Ordering.TheVariants.{Less, Equal}
use Rattle.std.specs.Ordering.{nat_cmp, eq_by_cmp}
use Rattle.std.specs.Cmp.{IsTotalOrder}
use Rattle.alg_mono.specs.FiniteMaps.{total}
use Rattle.alg_mono.specs.Numbers.{integers}
use Rattle.alg_mono.specs.Monomials.{IsMono, Divides, mono_times, lcm, grevlex, falling}
use Rattle.alg_mono.specs.Grevlex.{IsBelow}
use Rattle.alg_mono.specs.Mono.{Monomial}
use Rattle.alg_mono.specs.NumberedPolynomials.{Polynomial, sum_of, product_of}
use Rattle.alg_mono.specs.Polynomials.{PolyOver, IsPolynomial, coefficient, poly_plus, poly_times, poly_neg}
use Rattle.alg_mono.specs.Outcomes.{outcome, Says}

module _ {K : Type 0} (cmp : K → K → Ordering) where
  -- the coefficient of p at m
  abbrev pub at : List (K × ℕ) → PolyOver K → ℤ
  at m p = coefficient (falling cmp) integers m p

  -- the sum of the products of two coefficients over all pairs of terms whose monomials multiply to m
  abbrev pub sum_over_pairs : List (K × ℕ) → PolyOver K → PolyOver K → ℤ
  sum_over_pairs m p q =
      total (pos 0) ◌+ℤ◌ (λ a c. total (pos 0) ◌+ℤ◌ (λ b d.
      cond (eq_by_cmp (falling cmp) m (mono_times cmp a b)) (c *ℤ d) (pos 0)) q) p

  -- over any atoms, sums, opposites and products are the usual ones, and polynomials with equal coefficients are equal
  pub record PolynomialsAreMaps : Type 0 where
    pub sum : (m : List (K × ℕ)) (p q : PolyOver K) → at m (poly_plus (falling cmp) integers p q) ≡ at m p +ℤ at m q
    pub opposite : (m : List (K × ℕ)) (p : PolyOver K) → at m (poly_neg p) ≡ neg_ℤ (at m p)
    pub product : (m : List (K × ℕ)) (p q : PolyOver K) →
        at m (poly_times (falling cmp) integers (mono_times cmp) p q) ≡ sum_over_pairs m p q
    pub equal : (p q : PolyOver K) → IsPolynomial cmp integers p → IsPolynomial cmp integers q →
        ((m : List (K × ℕ)) → at m p ≡ at m q) → p ≡ q

-- polynomials are a commutative ring
pub record PolynomialsAreARing : Type 0 where
  pub plus_assoc : (p q r : Polynomial) → sum_of (sum_of p q) r ≡ sum_of p (sum_of q r)
  pub plus_comm : (p q : Polynomial) → sum_of p q ≡ sum_of q p
  pub plus_zero : (p : Polynomial) → IsPolynomial nat_cmp integers p → sum_of [] p ≡ p
  pub opposite : (p : Polynomial) → sum_of p (poly_neg p) ≡ []
  pub times_assoc : (p q r : Polynomial) → product_of (product_of p q) r ≡ product_of p (product_of q r)
  pub times_comm : (p q : Polynomial) → product_of p q ≡ product_of q p
  pub times_one : (p : Polynomial) → IsPolynomial nat_cmp integers p → product_of (([], pos 1) ∷ []) p ≡ p
  pub distributes : (p q r : Polynomial) → product_of p (sum_of q r) ≡ sum_of (product_of p q) (product_of p r)

-- a product is zero only where a factor is
abbrev pub NoZeroDivisors : Type 0
NoZeroDivisors =
    (p q : Polynomial) → IsPolynomial nat_cmp integers p → IsPolynomial nat_cmp integers q → p ≢ [] → q ≢ [] →
    product_of p q ≢ []

-- the computed order is grevlex in its own words, a total order that multiplication keeps
pub record GrevlexIsItsWords : Type 0 where
  pub below : (m n : Monomial) → IsMono nat_cmp m → IsMono nat_cmp n →
      (grevlex nat_cmp m n ≡ Less) ↔ IsBelow nat_cmp m n
  pub equal : (m n : Monomial) → grevlex nat_cmp m n ≡ Equal → m ≡ n
  pub total : IsTotalOrder (grevlex nat_cmp)
  pub kept : (m n k : Monomial) → IsMono nat_cmp m → IsMono nat_cmp n → IsBelow nat_cmp m n →
      IsBelow nat_cmp (mono_times nat_cmp m k) (mono_times nat_cmp n k)

-- a monomial divides another where some product with it is the other
pub record DivisionIsByProducts : Type 0 where
  pub quotient : (d m : Monomial) → IsMono nat_cmp m → Divides nat_cmp d m →
      (q : Monomial) × (mono_times nat_cmp d q ≡ m)
  pub product : (d q : Monomial) → Divides nat_cmp d (mono_times nat_cmp d q)

-- both divide the least common multiple, and it divides each common multiple
pub record LcmIsLeast : Type 0 where
  pub left : (a b : Monomial) → IsMono nat_cmp b → Divides nat_cmp a (lcm nat_cmp a b)
  pub right : (a b : Monomial) → IsMono nat_cmp b → Divides nat_cmp b (lcm nat_cmp a b)
  pub least : (a b m : Monomial) → IsMono nat_cmp b → Divides nat_cmp a m → Divides nat_cmp b m →
      Divides nat_cmp (lcm nat_cmp a b) m

-- an outcome says which rule is broken
abbrev pub OutcomesSay : Type 0
OutcomesSay = (bound degree : ℕ) → Says bound degree (outcome bound degree)
