-- The norm of a sum and of a product is at most the sum and the product of the norms.
use Rattle.std.specs.Prelude.{◌≡◌, ℕ, zero, suc, ◌+◌, ◌*◌, ◌^◌, ◌≤◌, true, false, cond, List, [], ◌∷◌, ◌++◌, ℤ, ◌+ℤ◌, ◌*ℤ◌}
use Rattle.std.proofs.Common.{refl, sym, ap, ◌∙◌, arith}
use lib.IntN.{neg_ℤ}
use Rattle.std.specs.Int.RustNames.{unsigned_abs}
use Rattle.std.proofs.lemmas.Int.{ints, unsigned_abs-mul}
use Rattle.std.proofs.lemmas.Nat.{mul-le}
use Rattle.std.proofs.Math.Nat.{pow-zero, pow-succ'}
use Rattle.std.proofs.lemmas.List.Sums.{sum_by-cons, sum_by-append}
use Rattle.std.specs.declared.cmp.Ordering.{Ordering}
use Rattle.std.specs.declared.cmp.Ordering.TheVariants.{Less, Equal, Greater}
use Rattle.std.specs.FinMap.Entries.{by_order}
use Rattle.alg_mono.specs.FiniteMaps.{keep, put_in, collect, row, products}
use Rattle.alg_mono.specs.Numbers.{integers}
use Rattle.alg_mono.specs.Polynomials.{norm, poly_plus, poly_neg, poly_minus, poly_term, poly_times, poly_scale, poly_power}

unsigned_abs-add : (a b : ℤ) → unsigned_abs (a +ℤ b) ≤ unsigned_abs a + unsigned_abs b
unsigned_abs-add a b = omega (arith, ints)

unsigned_abs-neg : (a : ℤ) → unsigned_abs (neg_ℤ a) ≡ unsigned_abs a
unsigned_abs-neg a = omega (arith, ints)

module _ {M : Type 0} where
  pub norm-cons : (e : M × ℤ) (p : List (M × ℤ)) → norm (e ∷ p) ≡ unsigned_abs e.1 + norm p
  norm-cons e p = sum_by-cons (λ (x : M × ℤ). unsigned_abs x.1) e p

  pub norm-append : (p q : List (M × ℤ)) → norm (p ++ q) ≡ norm p + norm q
  norm-append p q = sum_by-append (λ (x : M × ℤ). unsigned_abs x.1) p q

  pub norm-poly_neg : (p : List (M × ℤ)) → norm (poly_neg p) ≡ norm p
  norm-poly_neg [] = refl
  norm-poly_neg (e ∷ p) =
      omega (arith, norm-cons (e.0, neg_ℤ e.1) (poly_neg p), norm-cons e p, unsigned_abs-neg e.1, norm-poly_neg p)

module _ {M : Type 0} (cmp : M → M → Ordering) where
  norm-keep : (k : M) (a : ℤ) (p : List (M × ℤ)) → norm (keep cmp integers.amounts k a p) ≤ unsigned_abs a + norm p
  norm-keep k a p =
      elim (integers.amounts.is_none a) as (λ b. norm (cond b p ((k, a) ∷ p)) ≤ unsigned_abs a + norm p) [
        | true ↦ omega arith
        | false ↦ omega (arith, norm-cons (k, a) p)
      ]

  norm-put_in : (k : M) (a : ℤ) (p : List (M × ℤ)) → norm (put_in cmp integers.amounts k a p) ≤ unsigned_abs a + norm p
  norm-put_in k a [] = norm-keep k a []
  norm-put_in k a (e ∷ p) =
      let C = integers.amounts in
      elim (cmp k e.0) as (λ r.
      norm (by_order r (keep cmp C k a (e ∷ p)) (keep cmp C e.0 (a +ℤ e.1) p) (e ∷ put_in cmp C k a p))
      ≤ unsigned_abs a + norm (e ∷ p)) [
        | Less ↦ norm-keep k a (e ∷ p)
        | Equal ↦ omega (arith, norm-keep e.0 (a +ℤ e.1) p, unsigned_abs-add a e.1, norm-cons e p)
        | Greater ↦ omega (arith, norm-cons e (put_in cmp C k a p), norm-put_in k a p, norm-cons e p)
      ]

  pub norm-collect : (p : List (M × ℤ)) → norm (collect cmp integers.amounts p) ≤ norm p
  norm-collect [] = omega arith
  norm-collect (e ∷ p) =
      omega (arith, norm-put_in e.0 e.1 (collect cmp integers.amounts p), norm-collect p, norm-cons e p)

  pub norm-poly_plus : (p q : List (M × ℤ)) → norm (poly_plus cmp integers p q) ≤ norm p + norm q
  norm-poly_plus p q = omega (arith, norm-collect (p ++ q), norm-append p q)

  pub norm-poly_minus : (p q : List (M × ℤ)) → norm (poly_minus cmp p q) ≤ norm p + norm q
  norm-poly_minus p q = omega (arith, norm-poly_plus p (poly_neg q), norm-poly_neg q)

  pub norm-poly_term : (m : M) (c : ℤ) → norm (poly_term cmp integers m c) ≤ unsigned_abs c
  norm-poly_term m c = omega (arith, norm-keep m c [])

  module _ (times : M → M → M) where
    pub norm-row : (m : M) (c : ℤ) (q : List (M × ℤ)) → norm (row times ◌*ℤ◌ m c q) ≡ unsigned_abs c * norm q
    norm-row m c [] = omega arith
    norm-row m c (f ∷ q) =
        norm-cons (times m f.0, c *ℤ f.1) (row times ◌*ℤ◌ m c q)
        ∙ (λ i. unsigned_abs-mul c f.1 i + norm-row m c q i)
        ∙ split (unsigned_abs c) (unsigned_abs f.1) (norm q)
        ∙ ap (λ n. unsigned_abs c * n) (sym (norm-cons f q))
      where
        split : (a b n : ℕ) → a * b + a * n ≡ a * (b + n)
        split a b n = omega arith

    norm-products : (p q : List (M × ℤ)) → norm (products times ◌*ℤ◌ p q) ≡ norm p * norm q
    norm-products [] q = omega arith
    norm-products (e ∷ p) q =
        norm-append (row times ◌*ℤ◌ e.0 e.1 q) (products times ◌*ℤ◌ p q)
        ∙ (λ i. norm-row e.0 e.1 q i + norm-products p q i)
        ∙ joined (unsigned_abs e.1) (norm p) (norm q)
        ∙ ap (λ n. n * norm q) (sym (norm-cons e p))
      where
        joined : (a n m : ℕ) → a * m + n * m ≡ (a + n) * m
        joined a n m = omega arith

    pub norm-poly_times : (p q : List (M × ℤ)) → norm (poly_times cmp integers times p q) ≤ norm p * norm q
    norm-poly_times p q = omega (arith, norm-collect (products times ◌*ℤ◌ p q), norm-products p q)

    pub norm-poly_scale : (c : ℤ) (m : M) (p : List (M × ℤ)) →
        norm (poly_scale cmp integers times c m p) ≤ unsigned_abs c * norm p
    norm-poly_scale c m p =
        let term = poly_term cmp integers m c in
        omega (
          arith,
          norm-poly_times term p,
          mul-le (norm term) (norm p) (unsigned_abs c) (norm p)
              (norm-poly_term m c) (omega arith),
        )

    pub norm-poly_power : (one : M) (p : List (M × ℤ)) (n : ℕ) →
        norm (poly_power cmp integers one times p n) ≤ norm p ^ n
    norm-poly_power one p zero = omega (arith, pow-zero (norm p))
    norm-poly_power one p (suc n) =
        let q = poly_power cmp integers one times p n in
        omega (
          arith,
          norm-poly_times p q,
          mul-le (norm p) (norm q) (norm p) (norm p ^ n) (omega arith)
              (norm-poly_power one p n),
          pow-succ' (norm p) n,
        )
