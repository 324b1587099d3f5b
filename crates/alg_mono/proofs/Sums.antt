-- Sums of exponents stay exponents, and the product of two monomials is a monomial.
use Rattle.std.specs.Prelude.{◌≡◌, ℕ, zero, suc, ◌+◌, ◌<◌, ◌≤◌, List, [], ◌∷◌, ◌++◌, length, not, cond, ◌==◌, false, take}
use Rattle.std.proofs.Common.{get_or, ap, subst, ◌∙◌, arith, T}
use Rattle.std.proofs.lemmas.List.{take_more}
use Rattle.std.proofs.lemmas.List.Sums.{sum_by_push, sum_by-append, sum_by-take-le}
use Rattle.std.specs.declared.cmp.Ordering.{Ordering}
use Rattle.std.specs.Cmp.{IsTotalOrder}
use Rattle.std.specs.FinMap.{IsAntisymmetric}
use Rattle.alg_mono.specs.FiniteMaps.{collect, keep, all_some}
use Rattle.alg_mono.specs.Numbers.{exponents}
use Rattle.alg_mono.specs.Monomials.{MAX_DEGREE, IsMono, degree, mono_times}
use Rattle.alg_mono.proofs.Numbers.{exponent_laws}
use Rattle.alg_mono.proofs.Canonical.{first, second, IsCanonical-collect}
use Rattle.alg_mono.proofs.Monomials.{degree-collect}

module _ {K : Type 0} (cmp : K → K → Ordering) where
  -- an exponent of at least 1 is kept
  pub keep_some : (k : K) (n : ℕ) (m : List (K × ℕ)) → 0 < n → keep cmp exponents k n m ≡ (k, n) ∷ m
  keep_some k zero m h = absurd (omega arith)
  keep_some k (suc n) m h = ap (λ b. cond b m ((k, suc n) ∷ m)) (unequal n)
    where
      unequal : (n : ℕ) → suc n == 0 ≡ false
      unequal n = grind arith

  pub keep_none : (k : K) (n : ℕ) → n ≡ 0 → keep cmp exponents k n [] ≡ []
  keep_none k n e = ap (λ n. keep cmp exponents k n []) e

  pub positive_at : (xs : List (K × ℕ)) (i : ℕ) (d : K × ℕ) → i < length xs → T (all_some cmp exponents xs) →
      0 < (get_or xs i d).1
  positive_at [] i d h s = absurd (omega arith)
  positive_at (x ∷ xs) zero d h s =
      let e : x.1 ≡ 0 → ⊥ = λ p. subst (λ b. T (not b)) (ap (λ n. n == 0) p) (first _ _ s) in
      omega arith
  positive_at (x ∷ xs) (suc i) d h s =
      positive_at xs i d (omega arith) (second (not (x.1 == 0)) (all_some cmp exponents xs) s)

  pub sum_kept : (xs : List (K × ℕ)) (i n : ℕ) (d : K × ℕ) → i < length xs → T (all_some cmp exponents xs) →
      keep cmp exponents (get_or xs i d).0 ((get_or xs i d).1 + n) [] ≡ ((get_or xs i d).0, (get_or xs i d).1 + n) ∷ []
  sum_kept xs i n d h s =
      keep_some (get_or xs i d).0 ((get_or xs i d).1 + n) [] (let p = positive_at xs i d h s in omega arith)

-- the degree of the pairs up to one is at most that of all
pub degree-take_more : {K : Type 0} (m : List (K × ℕ)) (i : ℕ) (d : K × ℕ) → i < length m →
    (degree (take (i + 1) m) ≡ degree (take i m) + (get_or m i d).1) × (degree (take (i + 1) m) ≤ degree m)
degree-take_more {K} m i d h = (
  ap (λ l. degree l) (take_more m i d h) ∙ sum_by_push (λ (x : K × ℕ). x.1) (take i m) (get_or m i d),
  sum_by-take-le (λ (x : K × ℕ). x.1) m (i + 1),
)

module _ {K : Type 0} {cmp : K → K → Ordering} (o : IsTotalOrder cmp) (anti : IsAntisymmetric cmp) where
  pub IsMono-collect : (m : List (K × ℕ)) → degree m ≤ MAX_DEGREE → IsMono cmp (collect cmp exponents m)
  IsMono-collect m h = record {
    canonical = IsCanonical-collect exponent_laws o anti m;
    small = omega (arith, degree-collect o anti m);
  }

  pub IsMono-mono_times : (m n : List (K × ℕ)) → degree m + degree n ≤ MAX_DEGREE → IsMono cmp (mono_times cmp m n)
  IsMono-mono_times m n h = IsMono-collect (m ++ n) (omega (arith, sum_by-append (λ (x : K × ℕ). x.1) m n))
