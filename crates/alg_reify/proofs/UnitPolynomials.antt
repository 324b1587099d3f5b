-- The polynomials 1 and -1, by their norm and degree.
use Rattle.std.specs.Prelude.{◌≡◌, ℕ, ◌+◌, ◌≤◌, true, false, ◌||◌, [], ◌∷◌, pos, negsuc, not, ◌==◌, ℤ}
use Rattle.std.proofs.Common.{refl, sym, ap, subst, ◌∙◌, arith, T}
use Rattle.std.specs.Int.RustNames.{unsigned_abs}
use Rattle.std.proofs.lemmas.List.Sums.{sum_by-cons}
use Rattle.std.specs.Ordering.{nat_cmp, eq_by_cmp}
use Rattle.alg_mono.specs.FiniteMaps.{all_some}
use Rattle.alg_mono.specs.Mono.{Monomial}
use Rattle.alg_mono.specs.Monomials.{degree}
use Rattle.alg_mono.specs.NumberedPolynomials.{Polynomial, before}
use Rattle.alg_mono.specs.Numbers.{exponents, integers, is_zero}
use Rattle.alg_mono.proofs.Canonical.{first, second}
use Rattle.alg_mono.proofs.Norms.{norm-cons}
use Rattle.alg_mono.specs.Outcomes.{is_nothing}
use Rattle.alg_mono.specs.Polynomials.{IsPoly, norm, poly_degree}
use Rattle.alg_meaning.specs.FractionsOver.{is_unit}
use Rattle.alg_reify.specs.FactorMaps.{order}
use Rattle.alg_reify.proofs.Coefficients.{only_equal}
use Rattle.alg_reify.proofs.FactorOrder.{order_anti}
use Rattle.alg_reify.proofs.NormsSome.{some_number, no_terms}

-- of norm 1 and degree 0
pub record IsUnit (p : Polynomial) : Type 0 where
  pub norm : norm p ≡ 1
  pub degree : poly_degree p ≡ 0
  pub some : is_nothing p ≡ false

one_is : IsUnit (([], pos 1) ∷ [])
one_is = record { norm = refl; degree = refl; some = refl }

minus_one_is : IsUnit (([], negsuc 0) ∷ [])
minus_one_is = record { norm = refl; degree = refl; some = refl }

pub unit_is : (p : Polynomial) → is_unit nat_cmp p ≡ true → IsUnit p
unit_is p h =
    let one : Polynomial = ([], pos 1) ∷ [] in
    let minus : Polynomial = ([], negsuc 0) ∷ [] in
    elim (eq_by_cmp order p one) as (λ b. eq_by_cmp order p one ≡ b → b || eq_by_cmp order p minus ≡ true → IsUnit p) [
      | true ↦ λ e h. subst IsUnit (sym (only_equal order_anti p one e)) one_is
      | false ↦ λ e h. subst IsUnit (sym (only_equal order_anti p minus h)) minus_one_is
    ] refl h

pub no_atoms : (m : Monomial) → T (all_some nat_cmp exponents m) → degree m ≡ 0 → m ≡ []
no_atoms [] h e = refl
no_atoms (e ∷ m) h is =
    absurd (some e.1 (first (not (e.1 == 0)) (all_some nat_cmp exponents m) h)
    (omega (arith, sum_by-cons (λ (x : ℕ × ℕ). x.1) e m, is)))
  where
    some : (n : ℕ) → T (not (n == 0)) → n ≡ 0 → ⊥
    some n h z = let P : ℕ → Type 0 = λ k. T (not (k == 0)) in subst P z h

one_number : (c : ℤ) → unsigned_abs c ≡ 1 → is_unit nat_cmp (([], c) ∷ []) ≡ true
one_number (pos n) h = let P : ℕ → Type 0 = λ k. is_unit nat_cmp (([], pos k) ∷ []) ≡ true in subst P (sym h) refl
one_number (negsuc n) h =
    let none : n ≡ 0 = omega (arith, h) in
    let P : ℕ → Type 0 = λ k. is_unit nat_cmp (([], negsuc k) ∷ []) ≡ true in subst P (sym none) refl

-- a polynomial of norm 1 and degree 0 is a unit
pub small_unit : (p : Polynomial) → IsPoly nat_cmp p → is_nothing p ≡ false → norm p + poly_degree p ≤ 1 →
    is_unit nat_cmp p ≡ true
small_unit [] h some small = absurd (cc)
small_unit (e ∷ p) h some small =
    let terms = h.polynomial.canonical.no_none in
    let here = some_number e.1 (first (not (is_zero e.1)) (all_some before integers.amounts p) terms) in
    let size = norm-cons e p in
    let rest = no_terms before p (second (not (is_zero e.1)) (all_some before integers.amounts p) terms)
    (omega (arith, size, here, small)) in
    let atoms = no_atoms e.0 h.polynomial.monomials.0.no_none (omega (arith, size, here, small)) in
    let one : unsigned_abs e.1 ≡ 1 = omega (arith, size, here, small) in
    ap (is_unit nat_cmp) (λ i. (atoms i, e.1) ∷ rest i) ∙ one_number e.1 one
