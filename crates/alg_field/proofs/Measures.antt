-- The norms and degrees of all factors of a list.
use Rattle.std.specs.Prelude.{◌≡◌, ℕ, zero, suc, ◌+◌, ◌*◌, ◌^◌, ◌<◌, ◌≤◌, false, cond, ◌||◌, [], ◌∷◌, ◌++◌, sum_by, length, drop}
use Rattle.std.proofs.Common.{get_or, refl, sym, ap, subst, ◌∙◌, arith}
use Rattle.std.proofs.Math.Nat.{mul_assoc, pow-zero, pow-succ', pow-le-pow_right}
use Rattle.std.proofs.lemmas.Nat.{mul-le, mul-pow, pow-add}
use Rattle.std.proofs.lemmas.List.Sums.{sum_by-cons}
use Rattle.alg_mono.specs.FiniteMaps.{Each, total}
use Rattle.alg_mono.specs.Outcomes.{Outcome, outcome, has_zero, norm_product, is_nothing}
use Rattle.alg_mono.specs.Polynomials.{PolyOver, norm, poly_degree}
use Rattle.alg_mono.proofs.MergeTurns.{drop_at}
use Rattle.alg_mono.proofs.Numbers.{natural_sum}
use Rattle.alg_mono.specs.Monomials.{scaled}
use Rattle.alg_meaning.specs.FactorsOver.{FactorsOver}
use Rattle.alg_meaning.specs.FractionRules.{all_factors, over_outcome, below_outcome}
use Rattle.alg_reify.proofs.FactorMeasures.{many, measure-all, norm_sum, either_sum, norm_measure, zero_measure, degree_measure}
use Rattle.alg_reify.specs.FactorMaps.{FactorMap, norms, degrees}
use Rattle.alg_field.specs.Lists.{IsFactor, IsList}

pub product_some : (a b : ℕ) → 0 < a → 0 < b → 0 < a * b
product_some a b h g =
    let at : 1 * 1 ≤ a * b = mul-le 1 1 a b (omega arith) (omega arith) in omega (arith, at)

pub power_some : (a n : ℕ) → 0 < a → 0 < a ^ n
power_some a zero h = omega (arith, pow-zero a)
power_some a (suc n) h =
    let rest = product_some a (a ^ n) h (power_some a n h) in omega (arith, pow-succ' a n, rest)

-- a power of at least 1 is no less, and so is a product
pub power_more : (a n : ℕ) → 0 < a → 0 < n → a ≤ a ^ n
power_more a n h g =
    let one : a ^ 1 ≡ a = pow-succ' a zero ∙ ap (λ x. a * x) (pow-zero a) ∙ times_one a in
    omega (arith, one, pow-le-pow_right h {i = 1} {j = n} (omega arith))
  where
    times_one : (a : ℕ) → a * 1 ≡ a
    times_one a = omega arith

pub times_more : (a b : ℕ) → 0 < b → a ≤ a * b
times_more a b g = let at : a * 1 ≤ a * b = mul-le a 1 a b (omega arith) (omega arith) in omega (arith, at)

norm-many : (n x : ℕ) → many norm_sum n x ≡ x ^ n
norm-many zero x = sym (pow-zero x)
norm-many (suc n) x = ap (λ y. x * y) (norm-many n x) ∙ sym (pow-succ' x n)

module _ {K : Type 0} where
  -- the norms of the first factor and of the rest
  pub norm_first : (e : PolyOver K × ℕ) (m : FactorsOver K) →
      norm_product (all_factors (e ∷ m)) ≡ norm e.0 ^ e.1 * norm_product (all_factors m)
  norm_first e m =
      norm_measure (all_factors (e ∷ m)) ∙ measure-all norm_sum (λ p. norm p) (e ∷ m)
      ∙ (λ i. norm-many e.1 (norm e.0) i
      * (sym (norm_measure (all_factors m) ∙ measure-all norm_sum (λ p. norm p) m)) i)

  -- where each factor has a norm, all have
  pub norms_some : (m : FactorsOver K) → Each (λ q. 0 < norm q) m → 0 < norm_product (all_factors m)
  norms_some [] h = omega arith
  norms_some (e ∷ m) h =
      let here : 0 < norm e.0 ^ e.1 = power_some (norm e.0) e.1 h.0 in
      let rest = norms_some m h.1 in
      let both = product_some (norm e.0 ^ e.1) (norm_product (all_factors m)) here rest in
      omega (arith, norm_first e m, both)

  -- one more factor, or one whose norm makes the bound too great
  pub norm_turn : (list : FactorsOver K) (i : ℕ) (x d : PolyOver K × ℕ) (out all : ℕ) → i < length list →
      x ≡ get_or list i d → Each (λ q. 0 < norm q) (drop i list) →
      out * norm_product (all_factors (drop i list)) ≡ all →
      ((out * norm x.0 ^ x.1) * norm_product (all_factors (drop (i + 1) list)) ≡ all)
      × (0 < norm x.0) × Each (λ q. 0 < norm q) (drop (i + 1) list) × (out * norm x.0 ^ x.1 ≤ all)
  norm_turn list i x d out all h e some is =
      let rest = drop (i + 1) list in
      let from : drop i list ≡ x ∷ rest = drop_at list i x d h e in
      let parts : Each (λ q. 0 < norm q) (x ∷ rest) =
      subst (λ (m : FactorsOver K). Each (λ q. 0 < norm q) m) from some in
      let whole : (out * norm x.0 ^ x.1) * norm_product (all_factors rest) ≡ all =
      mul_assoc out (norm x.0 ^ x.1) (norm_product (all_factors rest))
      ∙ ap (λ n. out * n) (sym (norm_first x rest) ∙ sym (ap (λ m. norm_product (all_factors m)) from)) ∙ is in
      let more = times_more (out * norm x.0 ^ x.1) (norm_product (all_factors rest)) (norms_some rest parts.1) in
      (whole, parts.0, parts.1, omega (arith, whole, more))

  -- no factor with a norm is zero
  no_zero : (m : FactorsOver K) → Each (λ q. 0 < norm q) m → has_zero (all_factors m) ≡ false
  no_zero m some = zero_measure (all_factors m) ∙ measure-all either_sum (λ p. is_nothing p) m ∙ none_of m some
    where
      is_some : (q : PolyOver K) → 0 < norm q → is_nothing q ≡ false
      is_some [] h = absurd (omega arith)
      is_some (e ∷ q) h = refl

      many_false : (n : ℕ) → many either_sum n false ≡ false
      many_false zero = refl
      many_false (suc n) = many_false n

      none_of : (m : FactorsOver K) → Each (λ q. 0 < norm q) m →
          total false ◌||◌ (λ q e. many either_sum e (is_nothing q)) m ≡ false
      none_of [] some = refl
      none_of (e ∷ m) some =
          (λ i. many either_sum e.1 (is_some e.0 some.0 i)
          || total false ◌||◌ (λ (q : PolyOver K) (n : ℕ). many either_sum n (is_nothing q)) m)
          ∙ (λ i. many_false e.1 i || none_of m some.1 i)

  -- a polynomial other than zero times factors: what the bounds say
  pub over_is : (p : PolyOver K) (m : FactorsOver K) → 0 < norm p → Each (λ q. 0 < norm q) m →
      over_outcome p m ≡ outcome (norm p * norm_product (all_factors m))
      (poly_degree p + sum_by poly_degree (all_factors m))
  over_is [] m h some = absurd (omega arith)
  over_is (e ∷ p) m h some =
      let q = e ∷ p in
      (λ i. cond (no_zero m some i) Outcome.Fine (outcome (norm q * norm_product (all_factors m))
      (sum_by-cons (λ (r : PolyOver K). poly_degree r) q (all_factors m) i)))

many-times : (n x : ℕ) → many natural_sum n x ≡ n * x
many-times zero x = omega arith
many-times (suc n) x = let rest = many-times n x in omega (arith, rest)

pub degree_first : {K : Type 0} (e : PolyOver K × ℕ) (m : FactorsOver K) →
    sum_by poly_degree (all_factors (e ∷ m)) ≡ e.1 * poly_degree e.0 + sum_by poly_degree (all_factors m)
degree_first {K} e m =
    degree_measure (all_factors (e ∷ m)) ∙ measure-all natural_sum (λ (p : PolyOver K). poly_degree p) (e ∷ m)
    ∙ (λ i. many-times e.1 (poly_degree e.0) i
    + (sym (degree_measure (all_factors m) ∙ measure-all natural_sum (λ (p : PolyOver K). poly_degree p) m)) i)

-- ---- a list of factors
pub each_factor : (m : FactorMap) → IsList m → Each IsFactor m
each_factor [] h = tt
each_factor (e ∷ m) h = (h.2, each_factor m h.3)

pub each_some : (m : FactorMap) → Each IsFactor m → Each (λ q. 0 < norm q) m
each_some [] h = tt
each_some (e ∷ m) h = (h.0.some, each_some m h.1)

-- two lists joined
pub norms-append : (a b : FactorMap) → norms (a ++ b) ≡ norms a * norms b
norms-append [] b = omega arith
norms-append (e ∷ a) b =
    norm_first e (a ++ b) ∙ ap (λ n. norm e.0 ^ e.1 * n) (norms-append a b)
    ∙ sym (mul_assoc (norm e.0 ^ e.1) (norms a) (norms b)) ∙ ap (λ n. n * norms b) (sym (norm_first e a))

pub degrees-append : (a b : FactorMap) → degrees (a ++ b) ≡ degrees a + degrees b
degrees-append [] b = omega arith
degrees-append (e ∷ a) b = omega (arith, degree_first e (a ++ b), degrees-append a b, degree_first e a)

-- each exponent n times
pow-mul : (x i j : ℕ) → x ^ (i * j) ≡ (x ^ i) ^ j
pow-mul x i zero = ap (λ n. x ^ n) (none i) ∙ pow-zero x ∙ sym (pow-zero (x ^ i))
  where
    none : (i : ℕ) → i * zero ≡ zero
    none i = omega arith
pow-mul x i (suc j) =
    ap (λ n. x ^ n) (more i j) ∙ pow-add x i (i * j) ∙ ap (λ y. x ^ i * y) (pow-mul x i j)
    ∙ sym (pow-succ' (x ^ i) j)
  where
    more : (i j : ℕ) → i * suc j ≡ i + i * j
    more i j = omega arith

one-pow : (n : ℕ) → 1 ≡ 1 ^ n
one-pow zero = sym (pow-zero 1)
one-pow (suc n) = omega (arith, pow-succ' 1 n, one-pow n)

pub norms-scaled : (n : ℕ) (m : FactorMap) → norms (scaled n m) ≡ norms m ^ n
norms-scaled n [] = one-pow n
norms-scaled n (e ∷ m) =
    norm_first (e.0, e.1 * n) (scaled n m) ∙ (λ i. pow-mul (norm e.0) e.1 n i * norms-scaled n m i)
    ∙ sym (mul-pow (norm e.0 ^ e.1) (norms m) n) ∙ ap (λ x. x ^ n) (sym (norm_first e m))

pub degrees-scaled : (n : ℕ) (m : FactorMap) → degrees (scaled n m) ≡ n * degrees m
degrees-scaled n [] = omega arith
degrees-scaled n (e ∷ m) =
    degree_first (e.0, e.1 * n) (scaled n m)
    ∙ times_in n e.1 (poly_degree e.0) (degrees m) (degrees (scaled n m)) (degrees-scaled n m)
    ∙ ap (λ x. n * x) (sym (degree_first e m))
  where
    times_in : (n k d s x : ℕ) → x ≡ n * s → k * n * d + x ≡ n * (k * d + s)
    times_in n k d s x h = omega (arith, h)

-- the product of all factors, none of which is zero, breaks the rule that the bounds break
pub below_is : (m : FactorMap) → Each (λ q. 0 < norm q) m → below_outcome m ≡ outcome (norms m) (degrees m)
below_is m some = λ i. cond (no_zero m some i) Outcome.Fine (outcome (norms m) (degrees m))
