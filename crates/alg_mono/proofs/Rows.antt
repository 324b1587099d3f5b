-- One term times the terms of a polynomial.
use Rattle.std.specs.Prelude.{◌≡◌, ◌≢◌, ℕ, zero, suc, ◌+◌, ◌<◌, ◌≤◌, true, false, not, [], ◌∷◌, ◌++◌, length, take, ℤ, pos, ◌*ℤ◌}
use Rattle.std.proofs.Common.{get_or, refl, sym, ap, subst, ◌∙◌, T, append-nil, arith}
use Rattle.std.proofs.lemmas.List.{take_more}
use Rattle.std.specs.declared.cmp.Ordering.TheVariants.{Less}
use Rattle.std.specs.Ordering.{nat_cmp, is_lt}
use Rattle.std.specs.Cmp.{nat_cmp_total}
use Rattle.std.specs.FinMap.{nat_cmp-IsAntisymmetric}
use Rattle.std.specs.FinMap.Entries.{below_all, is_sorted}
use Rattle.alg_mono.specs.FiniteMaps.{IsCanonical, Each, all_some, collect}
use Rattle.alg_mono.specs.Monomials.{degree, mono_times}
use Rattle.alg_mono.specs.Numbers.{exponents, integers, is_zero}
use Rattle.alg_mono.specs.Polynomials.{IsPolynomial, poly_degree}
use Rattle.alg_mono.proofs.Canonical.{both, first, second, less, collect-canonical}
use Rattle.alg_mono.proofs.Degrees.{degrees_within, DegreesWithin}
use Rattle.alg_mono.proofs.Domain.{product_some}
use Rattle.alg_mono.proofs.Grevlex.{falling-mono_times}
use Rattle.alg_mono.proofs.Monomials.{mono_times_comm}
use Rattle.alg_mono.proofs.Numbers.{integer_laws, is_zero_only}
use Rattle.alg_mono.specs.Mono.{Monomial}
use Rattle.alg_mono.specs.NumberedPolynomials.{Polynomial, before, row_of, product_of}
use Rattle.alg_mono.proofs.TermOrder.{before_total, before_anti}

-- ---- terms at an index
row-append : (m : Monomial) (c : ℤ) (p : Polynomial) (x : Monomial × ℤ) →
    row_of m c (p ++ x ∷ []) ≡ row_of m c p ++ (mono_times nat_cmp m x.0, c *ℤ x.1) ∷ []
row-append m c [] x = refl
row-append m c (y ∷ p) x = ap (λ r. (mono_times nat_cmp m y.0, c *ℤ y.1) ∷ r) (row-append m c p x)

-- one more term
pub row_more : (m : Monomial) (c : ℤ) (p : Polynomial) (i : ℕ) (x : Monomial × ℤ) → i < length p → x ≡ get_or p i x →
    row_of m c (take (i + 1) p) ≡ row_of m c (take i p) ++ (mono_times nat_cmp m x.0, c *ℤ x.1) ∷ []
row_more m c p i x h e =
    ap (row_of m c) (take_more p i x h ∙ ap (λ z. take i p ++ z ∷ []) (sym e)) ∙ row-append m c (take i p) x

within_at : (d : ℕ) (p : Polynomial) (i : ℕ) (x : Monomial × ℤ) → i < length p → DegreesWithin d p →
    degree (get_or p i x).0 ≤ d
within_at d [] i x h w = absurd (omega arith)
within_at d (e ∷ p) zero x h w = w.0
within_at d (e ∷ p) (suc i) x h w = within_at d p i x (omega arith) w.1

-- a term's degree is at most the polynomial's
pub degree_small : (p : Polynomial) (i : ℕ) (x : Monomial × ℤ) → i < length p → x ≡ get_or p i x →
    degree x.0 ≤ poly_degree p
degree_small p i x h e =
    subst (λ (z : Monomial × ℤ). degree z.0 ≤ poly_degree p) (sym e)
    (within_at (poly_degree p) p i x h (degrees_within (poly_degree p) p (omega arith)))

-- ---- a row is canonical
pub some_number : (c : ℤ) → c ≢ pos 0 → T (not (is_zero c))
some_number c h = elim (is_zero c) as (λ b. is_zero c ≡ b → T (not b)) [
  | true ↦ λ e. h (is_zero_only c e)
  | false ↦ λ e. tt
] refl

some_product : (c d : ℤ) → T (not (is_zero c)) → T (not (is_zero d)) → T (not (is_zero (c *ℤ d)))
some_product c d h k = some_number (c *ℤ d) (product_some c d h k)

abbrev Well : Monomial → Type 0
Well m = IsCanonical nat_cmp exponents m

module _ (m : Monomial) (c : ℤ) (some : T (not (is_zero c))) where
  product_below : (k n : Monomial) → Well k → Well n → before k n ≡ Less →
      before (mono_times nat_cmp m k) (mono_times nat_cmp m n) ≡ Less
  product_below k n h g l =
      (λ i. before (mono_times_comm nat_cmp_total nat_cmp-IsAntisymmetric m k i)
      (mono_times_comm nat_cmp_total nat_cmp-IsAntisymmetric m n i))
      ∙ falling-mono_times nat_cmp_total nat_cmp-IsAntisymmetric k n m h g l

  row_below : (k : Monomial) (p : Polynomial) → Well k → Each Well p → T (below_all before k p) →
      T (below_all before (mono_times nat_cmp m k) (row_of m c p))
  row_below k [] h w b = tt
  row_below k (e ∷ p) h w b =
      both _ _ (subst (λ r. T (is_lt r)) (sym (product_below k e.0 h w.0 (less _ (first _ _ b)))) tt)
      (row_below k p h w.1 (second _ _ b))

  row_rises : (p : Polynomial) → Each Well p → T (is_sorted before p) → T (is_sorted before (row_of m c p))
  row_rises [] w s = tt
  row_rises (e ∷ p) w s = both _ _ (row_below e.0 p w.0 w.1 (first _ _ s)) (row_rises p w.1 (second _ _ s))

  row_some : (p : Polynomial) → T (all_some before integers.amounts p) →
      T (all_some before integers.amounts (row_of m c p))
  row_some [] s = tt
  row_some (e ∷ p) s = both _ _ (some_product c e.1 some (first _ _ s)) (row_some p (second _ _ s))

  pub IsCanonical-row : (p : Polynomial) → IsPolynomial nat_cmp integers p →
      IsCanonical before integers.amounts (row_of m c p)
  IsCanonical-row p h = record {
    rises = row_rises p h.monomials h.canonical.rises;
    no_none = row_some p h.canonical.no_none;
  }

  -- the product with one term
  pub product_of_term : (p : Polynomial) → IsPolynomial nat_cmp integers p →
      product_of ((m, c) ∷ []) p ≡ row_of m c p
  product_of_term p h =
      ap (collect before integers.amounts) (append-nil (row_of m c p))
      ∙ collect-canonical integer_laws.amounts before_total before_anti (row_of m c p) (IsCanonical-row p h)

-- the product of a list of one term
pub product_of_one : (p q : Polynomial) (x : Monomial × ℤ) → length p ≡ 1 → x ≡ get_or p 0 x →
    IsPolynomial nat_cmp integers p → IsPolynomial nat_cmp integers q → row_of x.0 x.1 q ≡ product_of p q
product_of_one [] q x l e h g = absurd (omega arith)
product_of_one (y ∷ []) q x l e h g =
    ap (λ (z : Monomial × ℤ). row_of z.0 z.1 q) e ∙ sym (product_of_term y.0 y.1 (first _ _ h.canonical.no_none) q g)
product_of_one (y ∷ z ∷ p) q x l e h g = absurd (omega arith)
