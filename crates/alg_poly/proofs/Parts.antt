-- The parts of a polynomial's list, and the product of two parts with a polynomial.
use Rattle.std.specs.Prelude.{◌≡◌, ℕ, zero, suc, Bool, false, ◌==◌, ◌+◌, ◌*◌, ◌<◌, ◌≤◌, [], ◌∷◌, ◌++◌, take, drop, ℤ, ◌+ℤ◌}
use Rattle.std.proofs.Common.{sym, ap, ◌∙◌, T, arith, take-append-drop}
use Rattle.std.specs.Int.RustNames.{unsigned_abs}
use Rattle.std.proofs.lemmas.List.Sums.{sum_by-take-drop}
use Rattle.std.proofs.lemmas.Nat.{mul-le}
use Rattle.std.proofs.lemmas.Bool.Decides.{nat_tests}
use Rattle.std.specs.Ordering.{nat_cmp}
use Rattle.std.specs.FinMap.Entries.{below_all, is_sorted}
use Rattle.alg_mono.specs.FiniteMaps.{Each, IsCanonical, all_some, at_key, products}
use Rattle.alg_mono.specs.Monomials.{degree, mono_times}
use Rattle.alg_mono.specs.Numbers.{exponents, integers}
use Rattle.alg_mono.specs.Polynomials.{IsPolynomial, MAX, norm, poly_degree}
use Rattle.alg_mono.proofs.Canonical.{both, first, second, collect_same, at_key_adds, IsCanonical-collect}
use Rattle.alg_mono.proofs.Degrees.{degrees_within, degree_within}
use Rattle.alg_mono.proofs.MergeTurns.{IsCanonical-drop}
use Rattle.alg_mono.proofs.Norms.{norm-poly_times}
use Rattle.alg_mono.proofs.Numbers.{integer_laws}
use Rattle.alg_mono.proofs.Polynomials.{total-poly_times}
use Rattle.alg_mono.proofs.Totals.{total-append, total-products}
use Rattle.alg_mono.specs.Mono.{Monomial}
use Rattle.alg_mono.specs.NumberedPolynomials.{Polynomial, before, sum_of, product_of}
use Rattle.alg_mono.proofs.TermOrder.{before_total, before_anti}

module _ (P : Monomial → Type 0) where
  Each-take : (i : ℕ) (p : Polynomial) → Each P p → Each P (take i p)
  Each-take zero p h = tt
  Each-take (suc i) [] h = tt
  Each-take (suc i) (e ∷ p) h = (h.0, Each-take i p h.1)

  Each-drop : (i : ℕ) (p : Polynomial) → Each P p → Each P (drop i p)
  Each-drop zero p h = h
  Each-drop (suc i) [] h = h
  Each-drop (suc i) (e ∷ p) h = Each-drop i p h.1

below-take : (m : Monomial) (i : ℕ) (p : Polynomial) → T (below_all before m p) → T (below_all before m (take i p))
below-take m zero p h = tt
below-take m (suc i) [] h = tt
below-take m (suc i) (e ∷ p) h = both _ _ (first _ _ h) (below-take m i p (second _ _ h))

rises-take : (i : ℕ) (p : Polynomial) → T (is_sorted before p) → T (is_sorted before (take i p))
rises-take zero p h = tt
rises-take (suc i) [] h = tt
rises-take (suc i) (e ∷ p) h = both _ _ (below-take e.0 i p (first _ _ h)) (rises-take i p (second _ _ h))

some-take : (i : ℕ) (p : Polynomial) → T (all_some before integers.amounts p) →
    T (all_some before integers.amounts (take i p))
some-take zero p h = tt
some-take (suc i) [] h = tt
some-take (suc i) (e ∷ p) h = both _ _ (first _ _ h) (some-take i p (second _ _ h))

pub IsPolynomial-take : (i : ℕ) (p : Polynomial) → IsPolynomial nat_cmp integers p →
    IsPolynomial nat_cmp integers (take i p)
IsPolynomial-take i p h = record {
  canonical = record { rises = rises-take i p h.canonical.rises; no_none = some-take i p h.canonical.no_none };
  monomials = Each-take (λ m. IsCanonical nat_cmp exponents m) i p h.monomials;
}

pub IsPolynomial-drop : (i : ℕ) (p : Polynomial) → IsPolynomial nat_cmp integers p →
    IsPolynomial nat_cmp integers (drop i p)
IsPolynomial-drop i p h = record {
  canonical = IsCanonical-drop integer_laws.amounts before_total before_anti p i h.canonical;
  monomials = Each-drop (λ m. IsCanonical nat_cmp exponents m) i p h.monomials;
}

pub norm_parts : (i : ℕ) (p : Polynomial) → norm (take i p) + norm (drop i p) ≡ norm p
norm_parts i p = sum_by-take-drop (λ (e : Monomial × ℤ). unsigned_abs e.1) p i

pub degree-take : (i : ℕ) (p : Polynomial) → poly_degree (take i p) ≤ poly_degree p
degree-take i p =
    let d = poly_degree p in
    degree_within d (take i p) (Each-take (λ m. degree m ≤ d) i p (degrees_within d p (omega arith)))

pub degree-drop : (i : ℕ) (p : Polynomial) → poly_degree (drop i p) ≤ poly_degree p
degree-drop i p =
    let d = poly_degree p in
    degree_within d (drop i p) (Each-drop (λ m. degree m ≤ d) i p (degrees_within d p (omega arith)))

product-append : (p r q : Polynomial) → product_of (p ++ r) q ≡ sum_of (product_of p q) (product_of r q)
product-append p r q =
    let times = mono_times nat_cmp in
    let mul = integers.mul in
    collect_same integer_laws.amounts before_total before_anti (products times mul (p ++ r) q)
    (product_of p q ++ product_of r q) (λ k.
    let S = integer_laws.amounts.laws in
    let g = at_key before integers.amounts k in
    let G = at_key_adds {cmp = before} integer_laws.amounts before_total before_anti k in
    total-products times mul S g (p ++ r) q ∙ total-append S _ p r
    ∙ sym (total-append S g (product_of p q) (product_of r q)
    ∙ (λ i. total-poly_times integer_laws before_anti S G times p q i
    +ℤ total-poly_times integer_laws before_anti S G times r q i)))

-- the product of the two parts of a list is the sum of the parts' products
pub product_parts : (i : ℕ) (p q : Polynomial) →
    sum_of (product_of (take i p) q) (product_of (drop i p) q) ≡ product_of p q
product_parts i p q =
    sym (product-append (take i p) (drop i p) q) ∙ ap (λ r. product_of r q) (take-append-drop i p)

-- a part's product is within the bound, and so is the sum of both
pub part_bound : (i : ℕ) (p q : Polynomial) → norm p * norm q ≤ MAX → norm (take i p) * norm q ≤ MAX
part_bound i p q h =
    omega (arith, mul-le (norm (take i p)) (norm q) (norm p) (norm q) (omega (arith, norm_parts i p)) (omega arith))

pub rest_bound : (i : ℕ) (p q : Polynomial) → norm p * norm q ≤ MAX → norm (drop i p) * norm q ≤ MAX
rest_bound i p q h =
    omega (arith, mul-le (norm (drop i p)) (norm q) (norm p) (norm q) (omega (arith, norm_parts i p)) (omega arith))

spread : (a b n : ℕ) → a * n + b * n ≡ (a + b) * n
spread a b n = omega arith

pub parts_bound : (i : ℕ) (p q : Polynomial) → norm p * norm q ≤ MAX →
    norm (product_of (take i p) q) + norm (product_of (drop i p) q) ≤ MAX
parts_bound i p q h =
    let times = mono_times nat_cmp in
    let whole : (norm (take i p) + norm (drop i p)) * norm q ≡ norm p * norm q =
    ap (λ n. n * norm q) (norm_parts i p) in
    let front = norm-poly_times before times (take i p) q in
    let back = norm-poly_times before times (drop i p) q in
    omega (arith, spread (norm (take i p)) (norm (drop i p)) (norm q))

-- a product's list is canonical
pub IsCanonical-product : (p q : Polynomial) → IsCanonical before integers.amounts (product_of p q)
IsCanonical-product p q =
    IsCanonical-collect integer_laws.amounts before_total before_anti (products (mono_times nat_cmp) integers.mul p q)

-- a list that is not empty has a term
pub some_terms : (n : ℕ) (b : Bool) → b ≡ (n == 0) → b ≡ false → 0 < n
some_terms n b e f = let g : false ≡ (n == 0) = sym f ∙ e in grind (arith, nat_tests)
