-- Polynomials over any monomials and any numbers: canonical lists of monomials with coefficients.
use Rattle.std.specs.Prelude.{ℕ, zero, suc, List, [], ◌∷◌, ◌++◌, ℤ, ◌≤◌, ◌^◌, ◌-◌, sum_by, max}
use lib.IntN.{neg_ℤ}
use Rattle.std.specs.Int.RustNames.{unsigned_abs}
use Rattle.std.specs.declared.cmp.Ordering.{Ordering}
use Rattle.alg_mono.specs.FiniteMaps.{collect, products, keep, amount, IsCanonical, Each}
use Rattle.alg_mono.specs.Numbers.{Numbers, exponents, integers}
use Rattle.alg_mono.specs.Monomials.{degree, falling, MAX_DEGREE}

module _ {M A : Type 0} (cmp : M → M → Ordering) (C : Numbers A) where
  -- the coefficient at a monomial, and zero where the polynomial does not have it
  abbrev pub coefficient : M → List (M × A) → A
  coefficient m p = amount cmp C.amounts m p

  -- the polynomial with one term, or zero where the coefficient is
  abbrev pub poly_term : M → A → List (M × A)
  poly_term m c = keep cmp C.amounts m c []

  -- the sum adds up the coefficients at each monomial
  abbrev pub poly_plus : List (M × A) → List (M × A) → List (M × A)
  poly_plus p q = collect cmp C.amounts (p ++ q)

  -- the product adds up the products of all pairs of terms
  abbrev pub poly_times : (M → M → M) → List (M × A) → List (M × A) → List (M × A)
  poly_times times p q = collect cmp C.amounts (products times C.mul p q)

  -- the product with one term
  abbrev pub poly_scale : (M → M → M) → A → M → List (M × A) → List (M × A)
  poly_scale times c m p = poly_times times (poly_term m c) p

  -- the product of n factors p; `one` is the monomial without atoms
  abbrev pub poly_power : M → (M → M → M) → List (M × A) → ℕ → List (M × A)
  poly_power one times p zero = poly_term one C.one
  poly_power one times p (suc n) = poly_times times p (poly_power one times p n)

-- a polynomial over atoms with whole coefficients
abbrev pub PolyOver : Type 0 → Type 0
PolyOver K = List (List (K × ℕ) × ℤ)

-- the same monomials with the opposite coefficients
abbrev pub poly_neg : {M : Type 0} → List (M × ℤ) → List (M × ℤ)
poly_neg [] = []
poly_neg (e ∷ p) = (e.0, neg_ℤ e.1) ∷ poly_neg p

-- p plus the opposite of q
abbrev pub poly_minus :
    {M : Type 0} → (M → M → Ordering) → List (M × ℤ) → List (M × ℤ) → List (M × ℤ)
poly_minus cmp p q = poly_plus cmp integers p (poly_neg q)

-- the greatest norm of a polynomial
abbrev pub MAX : ℕ
MAX = 2 ^ 127 - 1

-- the sum of the magnitudes of the coefficients
abbrev pub norm : {M : Type 0} → List (M × ℤ) → ℕ
norm p = sum_by (λ e. unsigned_abs e.1) p

-- the greatest degree of its monomials, and 0 for zero
abbrev pub poly_degree : {K A : Type 0} → List (List (K × ℕ) × A) → ℕ
poly_degree [] = 0
poly_degree (e ∷ p) = max (degree e.0) (poly_degree p)

-- a polynomial over atoms: its monomials fall in grevlex, each has one list, no coefficient is zero
pub record IsPolynomial {K A : Type 0} (cmp : K → K → Ordering) (C : Numbers A)
    (p : List (List (K × ℕ) × A)) : Type 0 where
  pub canonical : IsCanonical (falling cmp) C.amounts p
  pub monomials : Each (λ m. IsCanonical cmp exponents m) p

-- a polynomial within the limits on norm and degree
pub record IsPoly {K : Type 0} (cmp : K → K → Ordering) (p : PolyOver K) : Type 0 where
  pub polynomial : IsPolynomial cmp integers p
  pub bounded : norm p ≤ MAX
  pub small : poly_degree p ≤ MAX_DEGREE
