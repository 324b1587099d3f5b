-- The product of factors does not depend on their order.
use Rattle.std.specs.Prelude.{◌≡◌, ℕ, zero, suc, ◌+◌, List, [], ◌∷◌, ◌++◌, pos}
use Rattle.std.proofs.Common.{refl, sym, ap, ◌∙◌, arith}
use Rattle.std.specs.declared.cmp.Ordering.{Ordering}
use Rattle.std.specs.Cmp.{IsTotalOrder}
use Rattle.std.specs.FinMap.{IsAntisymmetric}
use Rattle.alg_mono.specs.FiniteMaps.{Each, collect, products}
use Rattle.alg_mono.specs.Numbers.{exponents, integers}
use Rattle.alg_mono.specs.Monomials.{falling, mono_times}
use Rattle.alg_mono.specs.Polynomials.{PolyOver, IsPolynomial}
use Rattle.alg_mono.proofs.Totals.{IsAdditive}
use Rattle.alg_mono.proofs.Numbers.{integer_laws, exponent_laws}
use Rattle.alg_mono.proofs.Canonical.{IsCanonical-collect}
use Rattle.alg_mono.proofs.Each.{Each-collect, Each-products, Each-weaker}
use Rattle.alg_mono.proofs.Grevlex.{falling_total, falling_anti}
use Rattle.alg_mono.proofs.Monomials.{mono_times_comm, mono_times_assoc, one_mono_times}
use Rattle.alg_mono.proofs.Polynomials.{times_poly_comm, times_poly_assoc}
use Rattle.alg_mono.proofs.Renaming.{one_times}
use Rattle.alg_meaning.specs.FactorsOver.{FactorsOver, poly_cmp, times, power, product}
use Rattle.alg_reify.proofs.NearSums.{IsNearSum, total-collect}
use Rattle.alg_meaning.specs.Orders.{over_anti}

-- what always holds holds of each key
each_always : {K A : Type 0} (P : K → Type 0) → ((k : K) → P k) → (es : List (K × A)) → Each P es
each_always P h [] = tt
each_always P h (e ∷ es) = (h e.0, each_always P h es)

module _ {K : Type 0} {cmp : K → K → Ordering} (o : IsTotalOrder cmp) (anti : IsAntisymmetric cmp) where
  abbrev one : PolyOver K
  one = ([], pos 1) ∷ []

  -- 1 times a product of any lists is the product
  one_product : (p q : PolyOver K) → times cmp one (times cmp p q) ≡ times cmp p q
  one_product p q =
      let Is : List (K × ℕ) → Type 0 = λ m. mono_times cmp [] m ≡ m in
      one_times integer_laws (falling_total o anti) (falling_anti o anti) (mono_times cmp) [] (times cmp p q)
      (IsCanonical-collect integer_laws.amounts (falling_total o anti) (falling_anti o anti)
      (products (mono_times cmp) integers.mul p q))
      (Each-collect (falling cmp) integers.amounts Is (products (mono_times cmp) integers.mul p q)
      (Each-products (mono_times cmp) integers.mul (λ m. Unit {0}) (λ m. Unit {0}) Is
      (λ m n a b. one_mono_times o anti (mono_times cmp m n) (IsCanonical-collect exponent_laws o anti (m ++ n))) p q
      (each_always (λ m. Unit {0}) (λ m. tt) p) (each_always (λ m. Unit {0}) (λ m. tt) q)))

  pub product_sum : IsNearSum one (times cmp)
  product_sum = record {
    assoc = times_poly_assoc integer_laws (falling_total o anti) (falling_anti o anti) (mono_times cmp)
        (mono_times_assoc o anti);
    comm = times_poly_comm integer_laws (falling_total o anti) (falling_anti o anti) (mono_times cmp)
        (mono_times_comm o anti);
    at_none = refl;
    at_plus = one_product;
  }

  -- a polynomial times 1
  pub times_one : (p : PolyOver K) → IsPolynomial cmp integers p → times cmp p one ≡ p
  times_one p h =
      product_sum.comm p one
      ∙ one_times integer_laws (falling_total o anti) (falling_anti o anti) (mono_times cmp) [] p h.canonical
      (Each-weaker (λ m c. one_mono_times o anti m c) p h.monomials)

  -- powers add up
  one_power : (p : PolyOver K) (n : ℕ) → times cmp one (power cmp p n) ≡ power cmp p n
  one_power p zero = refl
  one_power p (suc n) = one_product p (power cmp p n)

  pub power-add : (p : PolyOver K) (m n : ℕ) → power cmp p (m + n) ≡ times cmp (power cmp p m) (power cmp p n)
  power-add p zero n = ap (power cmp p) (none n) ∙ sym (one_power p n)
    where
      none : (n : ℕ) → zero + n ≡ n
      none n = omega arith
  power-add p (suc m) n =
      ap (power cmp p) (next m n) ∙ ap (times cmp p) (power-add p m n) ∙ sym (product_sum.assoc p (power cmp p m)
      (power cmp p n))
    where
      next : (m n : ℕ) → suc m + n ≡ suc (m + n)
      next m n = omega arith

  pub power_adds : IsAdditive exponents one (times cmp) (λ q e. power cmp q e)
  power_adds = record { at_none = λ q. refl; at_plus = power-add }

  -- the product of the map is that of the list
  pub product-collect : (es : FactorsOver K) → product cmp (collect (poly_cmp cmp) exponents es) ≡ product cmp es
  product-collect es = total-collect exponent_laws (over_anti o anti) product_sum power_adds es
