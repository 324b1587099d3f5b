-- Products with zero, with one term, and with a number.
use Rattle.std.specs.Prelude.{◌≡◌, ◌≢◌, true, false, cond, not, [], ◌∷◌, ℤ, pos, ◌*ℤ◌}
use Rattle.std.proofs.Common.{refl, ap, ◌∙◌, T}
use Rattle.std.specs.Ordering.{nat_cmp}
use Rattle.std.specs.Cmp.{nat_cmp_total}
use Rattle.std.specs.FinMap.{nat_cmp-IsAntisymmetric}
use Rattle.alg_mono.specs.FiniteMaps.{Each, IsCanonical, collect, products}
use Rattle.alg_mono.specs.Monomials.{mono_times}
use Rattle.alg_mono.specs.Numbers.{exponents, integers, is_zero}
use Rattle.alg_mono.specs.Polynomials.{IsPolynomial}
use Rattle.alg_mono.specs.Mono.{Monomial}
use Rattle.alg_mono.specs.NumberedPolynomials.{Polynomial, before, term_of, row_of, product_of, multiple_of}
use Rattle.alg_mono.proofs.Monomials.{one_mono_times}
use Rattle.alg_mono.proofs.Numbers.{one-*ℤ}
use Rattle.alg_mono.proofs.Rows.{product_of_term, some_number}
use Rattle.alg_poly.specs.Divisors.{times_number}

products_with_zero : (p : Polynomial) → products (mono_times nat_cmp) integers.mul p [] ≡ []
products_with_zero [] = refl
products_with_zero (e ∷ p) = products_with_zero p

pub product_with_zero : (p : Polynomial) → product_of p [] ≡ []
product_with_zero p = ap (collect before integers.amounts) (products_with_zero p)

pub zero_multiple : (m : Monomial) (p : Polynomial) → multiple_of (pos 0) m p ≡ []
zero_multiple m p = refl

pub multiple_with_zero : (c : ℤ) (m : Monomial) → multiple_of c m [] ≡ []
multiple_with_zero c m = product_with_zero (term_of m c)

term_some : (m : Monomial) (c : ℤ) → T (not (is_zero c)) → term_of m c ≡ (m, c) ∷ []
term_some m c h =
    let one : Polynomial = (m, c) ∷ [] in
    let none : Polynomial = [] in
    elim (is_zero c) as (λ b. T (not b) → cond b none one ≡ one) [
      | true ↦ λ h. absurd h
      | false ↦ λ h. refl
    ] h

-- a multiple, term by term
pub multiple_is_row : (c : ℤ) (m : Monomial) (p : Polynomial) → c ≢ pos 0 → IsPolynomial nat_cmp integers p →
    multiple_of c m p ≡ row_of m c p
multiple_is_row c m p h s =
    let some = some_number c h in
    ap (λ (t : Polynomial). product_of t p) (term_some m c some) ∙ product_of_term m c some p s

row_is_times : (c : ℤ) (p : Polynomial) → Each (λ m. IsCanonical nat_cmp exponents m) p →
    row_of [] c p ≡ times_number c p
row_is_times c [] h = refl
row_is_times c (e ∷ p) h =
    λ i. (one_mono_times nat_cmp_total nat_cmp-IsAntisymmetric e.0 h.0 i, c *ℤ e.1) ∷ row_is_times c p h.1 i

-- one time a polynomial is the polynomial
pub one_time : (p : Polynomial) → times_number (pos 1) p ≡ p
one_time [] = refl
one_time (e ∷ p) = λ i. (e.0, one-*ℤ e.1 i) ∷ one_time p i

-- a number times a polynomial, coefficient by coefficient
pub multiple_is_times : (c : ℤ) (p : Polynomial) → c ≢ pos 0 → IsPolynomial nat_cmp integers p →
    multiple_of c [] p ≡ times_number c p
multiple_is_times c p some s = multiple_is_row c [] p some s ∙ row_is_times c p s.monomials
