-- The turns of a loop that multiplies a polynomial by the powers of factors.
use Rattle.std.specs.Prelude.{◌≡◌, ℕ, zero, suc, ◌+◌, ◌*◌, ◌^◌, ◌<◌, ◌≤◌, true, false, [], ◌∷◌, length, drop}
use Rattle.std.proofs.Common.{get_or, refl, sym, ap, subst, ◌∙◌, arith}
use Rattle.std.proofs.Math.Nat.{mul_assoc}
use Rattle.std.proofs.lemmas.Nat.{mul-le}
use Rattle.std.specs.Ordering.{nat_cmp}
use Rattle.std.specs.Cmp.{nat_cmp_total}
use Rattle.std.specs.FinMap.{nat_cmp-IsAntisymmetric}
use Rattle.alg_mono.specs.Monomials.{MAX_DEGREE, mono_times}
use Rattle.alg_mono.specs.NumberedPolynomials.{Polynomial, before, power_of, product_of}
use Rattle.alg_mono.specs.Numbers.{integers}
use Rattle.alg_mono.specs.Polynomials.{MAX, norm, poly_degree, IsPoly}
use Rattle.alg_mono.proofs.Degrees.{degree-poly_power, degree-poly_times}
use Rattle.alg_mono.proofs.Norms.{norm-poly_power, norm-poly_times}
use Rattle.alg_mono.specs.Outcomes.{Outcome, is_nothing}
use Rattle.alg_mono.proofs.Outcomes.{says_at}
use Rattle.alg_meaning.specs.FractionRules.{over_outcome}
use Rattle.alg_reify.proofs.FactorProducts.{times_one, product_sum}
use Rattle.alg_mono.proofs.MergeTurns.{drop_at}
use Rattle.alg_reify.specs.FactorMaps.{FactorMap, product, norms, degrees}
use Rattle.alg_field.specs.Within.{IsWithin}
use Rattle.alg_field.specs.Lists.{IsList}
use Rattle.alg_field.proofs.Measures.{norm_first, degree_first, norms_some, times_more, power_some, each_some, each_factor, over_is}
use Rattle.alg_reify.proofs.NormsSome.{norm_some}

module _ (list : FactorMap) (i : ℕ) (x d : Polynomial × ℕ) (out : Polynomial) (h : i < length list)
    (e : x ≡ get_or list i d) (w : IsWithin out (drop i list)) where
  at_first : IsWithin out (x ∷ drop (i + 1) list)
  at_first = subst (IsWithin out) (drop_at list i x d h e) w

  -- the power is within the limits
  pub power_norm : norm x.0 ^ x.1 ≤ MAX
  power_norm =
      let m = drop (i + 1) list in
      let small = at_first.small in
      omega (
        arith,
        norm_first x m,
        times_more (norm x.0 ^ x.1) (norms m)
            (norms_some m at_first.some.1),
        small,
      )

  pub power_degree : x.1 * poly_degree x.0 ≤ MAX_DEGREE
  power_degree = let low = at_first.low in omega (arith, degree_first x (drop (i + 1) list), low)

  module _ (r : Polynomial) (is : r ≡ power_of x.0 x.1) where
    norm_power : norm r ≤ norm x.0 ^ x.1
    norm_power =
        omega (arith, ap (λ (p : Polynomial). norm p) is, norm-poly_power before (mono_times nat_cmp) [] x.0 x.1)

    degree_power : poly_degree r ≤ x.1 * poly_degree x.0
    degree_power =
        omega (
          arith,
          ap (λ (p : Polynomial). poly_degree p) is,
          degree-poly_power integers nat_cmp_total nat_cmp-IsAntisymmetric x.0 x.1,
        )

    -- the bound of the new product with what is left
    all_norms : (norm out * norm r) * norms (drop (i + 1) list) ≤ MAX
    all_norms =
        let m = drop (i + 1) list in
        let n = norms m in
        let part = mul-le (norm r) n (norm x.0 ^ x.1) n norm_power (omega arith) in
        let whole = mul-le (norm out) (norm r * n) (norm out) (norms (x ∷ m)) (omega arith)
        (omega (arith, part, norm_first x m)) in
        let bound = at_first.light in
        omega (arith, mul_assoc (norm out) (norm r) n, whole, bound)

    -- the product is within the limits
    pub times_norm : norm out * norm r ≤ MAX
    times_norm =
        let m = drop (i + 1) list in
        omega (
          arith,
          all_norms,
          times_more (norm out * norm r) (norms m)
              (norms_some m at_first.some.1),
        )

    pub times_degree : poly_degree out + poly_degree r ≤ MAX_DEGREE
    times_degree =
        let low = at_first.low in omega (arith, degree_first x (drop (i + 1) list), degree_power, low)

    -- the next turn
    pub next_within : (s : Polynomial) → s ≡ product_of out r → IsWithin s (drop (i + 1) list)
    next_within s made =
        let m = drop (i + 1) list in
        let n = norms m in
        let size = ap (λ (p : Polynomial). norm p) made in
        let height = ap (λ (p : Polynomial). poly_degree p) made in
        let light : norm s ≤ norm out * norm r =
        omega (arith, size, norm-poly_times before (mono_times nat_cmp) out r) in
        let small = at_first.small in
        let low = at_first.low in
        record {
          times_one =
              let ring = product_sum nat_cmp_total nat_cmp-IsAntisymmetric in
              ap (λ p. product_of p (product [])) made ∙ ring.comm (product_of out r) (product [])
              ∙ ring.at_plus out r ∙ sym made;
          some = at_first.some.1;
          light = omega (arith, mul-le (norm s) n (norm out * norm r) n light (omega arith), all_norms);
          small =
              let most = more (norm x.0 ^ x.1) n (power_some (norm x.0) x.1 at_first.some.0) in
              omega (arith, norm_first x m, most, small);
          low = omega (
            arith,
            height,
            degree-poly_times integers nat_cmp_total nat_cmp-IsAntisymmetric out r,
            degree_first x m,
            degree_power,
            low,
          );
        }
      where
        more : (a b : ℕ) → 0 < a → b ≤ a * b
        more a b g = let at : 1 * b ≤ a * b = mul-le 1 b a b (omega arith) (omega arith) in omega (arith, at)

    pub next_product : (s : Polynomial) → s ≡ product_of out r →
        product_of s (product (drop (i + 1) list)) ≡ product_of out (product (drop i list))
    next_product s made =
        let m = drop (i + 1) list in
        ap (λ p. product_of p (product m)) (made ∙ ap (product_of out) is)
        ∙ (product_sum nat_cmp_total nat_cmp-IsAntisymmetric).assoc out (power_of x.0 x.1) (product m)
        ∙ ap (product_of out) (sym (ap (λ l. product l) (drop_at list i x d h e)))

-- nothing is left at the end
pub drop_end : (list : FactorMap) (i : ℕ) → length list ≤ i → drop i list ≡ []
drop_end [] zero h = refl
drop_end [] (suc i) h = refl
drop_end (x ∷ list) zero h = absurd (omega arith)
drop_end (x ∷ list) (suc i) h = drop_end list i (omega arith)

-- a polynomial other than 0 whose product with the factors breaks no rule
pub within_first : (p : Polynomial) (list : FactorMap) → IsPoly nat_cmp p → is_nothing p ≡ false → IsList list →
    over_outcome p list ≡ Outcome.Fine → IsWithin p list
within_first p list is some h fine =
    let each = each_some list (each_factor list h) in
    let norm_is = norm_some p is some in
    let kept = says_at (norm p * norms list) (poly_degree p + degrees list) Outcome.Fine
    (sym (over_is p list norm_is each) ∙ fine) in
    let more = mul-le 1 (norms list) (norm p) (norms list) norm_is (omega arith) in
    let bound = kept.0 in
    record {
      times_one = times_one nat_cmp_total nat_cmp-IsAntisymmetric p is.polynomial;
      some = each;
      light = kept.0;
      small = omega (arith, more, bound);
      low = kept.1;
    }

-- 0 stays 0
pub nothing_times : (p q : Polynomial) → is_nothing p ≡ true → p ≡ product_of p q
nothing_times [] q h = refl
nothing_times (e ∷ p) q h = absurd (cc)
