-- The tests on polynomials that are numbers.
use Rattle.std.specs.Prelude.{◌≡◌, ℕ, Bool, true, false, not, [], ◌∷◌, length, min, nat_eq}
use Rattle.std.proofs.lemmas.Bool.Decides.{Decides-eqb}
use Rattle.std.proofs.Common.{refl, sym, ap, ◌∙◌, arith, T}
use Rattle.std.specs.Ordering.{nat_cmp}
use Rattle.alg_mono.specs.FiniteMaps.{all_some}
use Rattle.alg_mono.specs.Monomials.{degree}
use Rattle.alg_mono.specs.NumberedPolynomials.{Polynomial, before}
use Rattle.alg_mono.specs.Numbers.{integers, is_zero}
use Rattle.alg_mono.specs.Polynomials.{IsPoly, norm, poly_degree}
use Rattle.alg_mono.proofs.Canonical.{first}
use Rattle.alg_meaning.specs.FractionsOver.{is_unit, is_constant}
use Rattle.alg_check.specs.declared.bounds.Size.{Size}
use Rattle.alg_check.specs.Bounds.{IsSize, norm_end, degree_end}
use Rattle.alg_reify.proofs.UnitPolynomials.{unit_is, small_unit, no_atoms}

-- ---- 1 or -1
pub unit_test : (p : Polynomial) → IsPoly nat_cmp p → norm p ≡ 1 → poly_degree p ≡ 0 → true ≡ is_unit nat_cmp p
unit_test [] h size low = absurd (omega (arith, size))
unit_test (e ∷ p) h size low = sym (small_unit (e ∷ p) h refl (omega (arith, size, low)))

pub no_unit : (p : Polynomial) → (norm p ≡ 1 → poly_degree p ≡ 0 → ⊥) → false ≡ is_unit nat_cmp p
no_unit p other =
    elim (is_unit nat_cmp p) as (λ b. is_unit nat_cmp p ≡ b → false ≡ b) [
      | true ↦ λ e. let unit = unit_is p e in absurd (other unit.norm unit.degree)
      | false ↦ λ e. refl
    ] refl

-- ---- a number other than 0
no_zero : (b : Bool) → T (not b) → true ≡ not b
no_zero true h = absurd h
no_zero false h = refl

pub constant_test : (p : Polynomial) → IsPoly nat_cmp p → length p ≡ 1 → poly_degree p ≡ 0 → true ≡ is_constant p
constant_test [] h one low = absurd (omega (arith, one))
constant_test (([], c) ∷ []) h one low =
    no_zero (is_zero c)
    (first (not (is_zero c)) (all_some before integers.amounts []) h.polynomial.canonical.no_none)
constant_test ((x ∷ m, c) ∷ []) h one low =
    let none : x ∷ m ≡ [] = no_atoms (x ∷ m) h.polynomial.monomials.0.no_none (omega (arith, low)) in
    absurd (cc)
constant_test (e ∷ f ∷ p) h one low = absurd (omega (arith, one))

pub no_constant : (p : Polynomial) → (length p ≡ 1 → poly_degree p ≡ 0 → ⊥) → false ≡ is_constant p
no_constant [] other = refl
no_constant (([], c) ∷ []) other = absurd (other refl refl)
no_constant ((x ∷ m, c) ∷ []) other = refl
no_constant (([], c) ∷ f ∷ p) other = refl
no_constant ((x ∷ m, c) ∷ f ∷ p) other = refl

-- the same by the size
pub size_unit : (p : Polynomial) → IsPoly nat_cmp p → (s : Size) → IsSize (norm p) (poly_degree p) s → s.norm ≡ 1 →
    nat_eq s.degree 0 ≡ is_unit nat_cmp p
size_unit p h s size one =
    elim (nat_eq s.degree 0) as (λ b. nat_eq s.degree 0 ≡ b → b ≡ is_unit nat_cmp p) [
      | true ↦ λ e. unit_test p h (low (norm p) (sym size.0 ∙ one))
          (none (poly_degree p) (sym size.1 ∙ (Decides-eqb s.degree 0).0 e))
      | false ↦ λ e. no_unit p (λ n z. absurd (differ (nat_eq s.degree 0)
          ((Decides-eqb s.degree 0).1 (size.1 ∙ ap (λ d. min d degree_end) z)) e))
    ] refl
  where
    low : (n : ℕ) → min n norm_end ≡ 1 → n ≡ 1
    low n e = omega (arith, e)

    none : (n : ℕ) → min n degree_end ≡ 0 → n ≡ 0
    none n e = omega (arith, e)

    differ : (b : Bool) → b ≡ true → b ≡ false → ⊥
    differ b yes' no' = cc

pub size_no_unit : (p : Polynomial) → (s : Size) → IsSize (norm p) (poly_degree p) s → (s.norm ≡ 1 → ⊥) →
    nat_eq s.norm 1 ≡ is_unit nat_cmp p
size_no_unit p s size other =
    elim (nat_eq s.norm 1) as (λ b. nat_eq s.norm 1 ≡ b → b ≡ is_unit nat_cmp p) [
      | true ↦ λ e. absurd (other ((Decides-eqb s.norm 1).0 e))
      | false ↦ λ e. no_unit p (λ n z. other (size.0 ∙ ap (λ k. min k norm_end) n))
    ] refl
