-- The product of two polynomials that are not zero is not zero.
use Rattle.std.specs.Prelude.{◌≡◌, ◌≢◌, ℕ, ◌*◌, ◌<◌, cond, not, List, [], ◌∷◌, ℤ, pos, negsuc, ◌+ℤ◌, ◌*ℤ◌, ◌==◌}
use Rattle.std.proofs.Common.{refl, sym, ap, subst, ◌∙◌, T, arith}
use Rattle.std.specs.Int.RustNames.{unsigned_abs}
use Rattle.std.proofs.lemmas.Int.{unsigned_abs-mul}
use lib.IntN.{+ℤ_idl, +ℤ_idr}
use Rattle.std.specs.declared.cmp.Ordering.{Ordering}
use Rattle.std.specs.declared.cmp.Ordering.TheVariants.{Less}
use Rattle.std.specs.Ordering.{is_eq}
use Rattle.std.specs.Cmp.{IsTotalOrder, tied_itself}
use Rattle.std.specs.FinMap.{IsAntisymmetric}
use Rattle.std.specs.FinMap.Entries.{below_all}
use Rattle.alg_mono.specs.FiniteMaps.{at_key, IsCanonical, amount, total, products, Each}
use Rattle.alg_mono.specs.Numbers.{integers, is_zero}
use Rattle.alg_mono.specs.Polynomials.{poly_times}
use Rattle.alg_mono.proofs.Totals.{total-products}
use Rattle.alg_mono.proofs.Numbers.{integer_laws, integer_sum}
use Rattle.alg_mono.proofs.Canonical.{first, second, less, amount-total, amount-collect}

-- a list with a first element isn't empty
pub some_first : {A : Type 0} (e : A) (es : List A) → e ∷ es ≢ []
some_first e es h = cc

some_abs : (z : ℤ) → T (not (is_zero z)) → 0 < unsigned_abs z
some_abs (pos n) h = let e : n ≡ 0 → ⊥ = λ p. subst (λ b. T (not b)) (ap (λ m. m == 0) p) h in omega arith
some_abs (negsuc n) h = omega arith

both_positive : (m n : ℕ) → 0 < m → 0 < n → 0 < m * n
both_positive m n h k = grind arith

-- a product of whole numbers is zero only where a factor is
pub product_some : (a b : ℤ) → T (not (is_zero a)) → T (not (is_zero b)) → a *ℤ b ≢ pos 0
product_some a b h k e =
    let p = both_positive (unsigned_abs a) (unsigned_abs b) (some_abs a h) (some_abs b k) in
    omega (arith, unsigned_abs-mul a b, ap unsigned_abs e)

-- products keep the order of the monomials of a kind
module _ {M : Type 0} {cmp : M → M → Ordering} (o : IsTotalOrder cmp) (anti : IsAntisymmetric cmp) (times : M → M → M)
    (times_comm : (m n : M) → times m n ≡ times n m) (Ok : M → Type 0)
    (keeps : (m n k : M) → Ok m → Ok n → cmp m n ≡ Less → cmp (times m k) (times n k) ≡ Less) where
  abbrev Sum : {A : Type 0} → (A → ℤ → ℤ) → List (A × ℤ) → ℤ
  Sum g p = total (pos 0) ◌+ℤ◌ g p

  abbrev At : M → M → ℤ → ℤ
  At k m c = at_key cmp integers.amounts k m c

  missed : (k l : M) → cmp k l ≡ Less → (c : ℤ) → At k l c ≡ pos 0
  missed k l h c = ap (λ r. cond (is_eq r) c (pos 0)) h

  -- all products of a row come after k
  row_zero : (k m : M) (c : ℤ) (q : List (M × ℤ)) → Each (λ n. cmp k (times m n) ≡ Less) q →
      Sum (λ n d. At k (times m n) (c *ℤ d)) q ≡ pos 0
  row_zero k m c [] a = refl
  row_zero k m c (f ∷ q) a =
      let rest = Sum (λ n d. At k (times m n) (c *ℤ d)) q in
      ap (λ x. x +ℤ rest) (missed k (times m f.0) a.0 (c *ℤ f.1)) ∙ +ℤ_idl rest ∙ row_zero k m c q a.1

  rows_zero : (k : M) (p q : List (M × ℤ)) → Each (λ m. Each (λ n. cmp k (times m n) ≡ Less) q) p →
      Sum (λ m c. Sum (λ n d. At k (times m n) (c *ℤ d)) q) p ≡ pos 0
  rows_zero k [] q a = refl
  rows_zero k (e ∷ p) q a =
      let rest = Sum (λ m c. Sum (λ n d. At k (times m n) (c *ℤ d)) q) p in
      ap (λ x. x +ℤ rest) (row_zero k e.0 e.1 q a.0) ∙ +ℤ_idl rest ∙ rows_zero k p q a.1

  -- the first monomials' product is before all others
  right_after : (m n : M) (q : List (M × ℤ)) → Ok m → Ok n → T (below_all cmp n q) → Each Ok q →
      Each (λ l. cmp (times m n) (times m l) ≡ Less) q
  right_after m n [] hm hn h a = tt
  right_after m n (f ∷ q) hm hn h a = (
    (λ i. cmp (times_comm m n i) (times_comm m f.0 i)) ∙ keeps n f.0 m hn a.0 (less _ (first _ _ h)),
    right_after m n q hm hn (second _ _ h) a.1,
  )

  after_both : (m n : M) (e : M × ℤ) (q : List (M × ℤ)) → Ok m → Ok e.0 → cmp m e.0 ≡ Less →
      Each (λ l. cmp (times e.0 n) (times e.0 l) ≡ Less) q → Each (λ l. cmp (times m n) (times e.0 l) ≡ Less) q
  after_both m n e [] hm he l a = tt
  after_both m n e (f ∷ q) hm he l a = (
    o.trans (times m n) (times e.0 n) (times e.0 f.0) (keeps m e.0 n hm he l) a.0,
    after_both m n e q hm he l a.1,
  )

  rows_after : (m n : M) (d : ℤ) (p q : List (M × ℤ)) → Ok m → Ok n → T (below_all cmp m p) → Each Ok p →
      T (below_all cmp n q) → Each Ok q → Each (λ k. Each (λ l. cmp (times m n) (times k l) ≡ Less) ((n, d) ∷ q)) p
  rows_after m n d [] q hm hn h a g b = tt
  rows_after m n d (e ∷ p) q hm hn h a g b =
      let l : cmp m e.0 ≡ Less = less _ (first _ _ h) in (
        (keeps m e.0 n hm a.0 l, after_both m n e q hm a.0 l (right_after e.0 n q a.0 hn g b)),
        rows_after m n d p q hm hn (second _ _ h) a.1 g b,
      )

  -- the lead of a product is the product of the leads
  pub lead_of_product : (m n : M) (c d : ℤ) (p q : List (M × ℤ)) → Ok m → Ok n → T (below_all cmp m p) → Each Ok p →
      T (below_all cmp n q) → Each Ok q →
      amount cmp integers.amounts (times m n) (poly_times cmp integers times ((m, c) ∷ p) ((n, d) ∷ q)) ≡ c *ℤ d
  lead_of_product m n c d p q hm hn h a g b =
      let k = times m n in
      let all = products times ◌*ℤ◌ ((m, c) ∷ p) ((n, d) ∷ q) in
      amount-collect integer_laws.amounts o anti k all ∙ amount-total integer_laws.amounts o anti k all
      ∙ total-products times ◌*ℤ◌ integer_sum (At k) ((m, c) ∷ p) ((n, d) ∷ q)
      ∙ (λ i. ((ap (λ r. cond (is_eq r) (c *ℤ d) (pos 0)) (tied_itself o k) i)
      +ℤ row_zero k m c q (right_after m n q hm hn g b) i)
      +ℤ rows_zero k p ((n, d) ∷ q) (rows_after m n d p q hm hn h a g b) i)
      ∙ +ℤ_idr ((c *ℤ d) +ℤ pos 0) ∙ +ℤ_idr (c *ℤ d)

  pub no_zero_divisors : (p q : List (M × ℤ)) → IsCanonical cmp integers.amounts p →
      IsCanonical cmp integers.amounts q →
      Each Ok p → Each Ok q → p ≢ [] → q ≢ [] → poly_times cmp integers times p q ≢ []
  no_zero_divisors [] q c d a b h g z = h refl
  no_zero_divisors (e ∷ p) [] c d a b h g z = g refl
  no_zero_divisors (e ∷ p) (f ∷ q) c d a b h g z =
      product_some e.1 f.1 (first _ _ c.no_none) (first _ _ d.no_none)
      (sym (lead_of_product e.0 f.0 e.1 f.1 p q a.0 b.0 (first _ _ c.rises) a.1 (first _ _ d.rises) b.1)
      ∙ ap (amount cmp integers.amounts (times e.0 f.0)) z)
