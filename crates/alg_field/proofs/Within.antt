-- Where the product of all factors is within the limits, no exponent is over its own.
use Rattle.std.specs.Prelude.{◌≡◌, ℕ, ◌+◌, ◌*◌, ◌^◌, ◌<◌, ◌≤◌, true, false, cond, [], ◌∷◌, nat_lt}
use Rattle.std.proofs.Common.{refl, sym, ap, subst, arith, T}
use Rattle.std.proofs.Math.Nat.{pow-zero, pow-le-pow_left}
use Rattle.std.proofs.Math.Pow.{pow_mono}
use Rattle.std.proofs.lemmas.Nat.{mul-le, pow-add}
use Rattle.std.proofs.lemmas.Bool.{ltb-true, ltb-false}
use Rattle.std.specs.Ordering.{eq_by_cmp}
use Rattle.alg_mono.specs.FiniteMaps.{Each}
use Rattle.alg_mono.specs.Monomials.{MAX_DEGREE}
use Rattle.alg_mono.specs.NumberedPolynomials.{Polynomial}
use Rattle.alg_mono.specs.Polynomials.{MAX, norm, poly_degree}
use Rattle.alg_mono.proofs.Canonical.{equal}
use Rattle.alg_reify.specs.FactorMaps.{FactorMap, order, exponent_of, norms, degrees}
use Rattle.alg_field.specs.Lists.{IsFactor, MAX_POWER}
use Rattle.alg_reify.proofs.FactorOrder.{order_anti}
use Rattle.alg_field.proofs.Measures.{norm_first, degree_first, power_some, each_some}

same_polynomial : (q p : Polynomial) → eq_by_cmp order q p ≡ true → q ≡ p
same_polynomial q p e = order_anti q p (equal _ (subst T (sym e) tt))

-- the norm of a polynomial to its exponent is at most that of all factors
norm_within : (q : Polynomial) (m : FactorMap) → Each (λ p. 0 < norm p) m → norm q ^ exponent_of q m ≤ norms m
norm_within q [] some = omega (arith, pow-zero (norm q))
norm_within q (e ∷ m) some =
    let rest = norm_within q m some.1 in
    elim (eq_by_cmp order q e.0) as (λ t. eq_by_cmp order q e.0 ≡ t →
    norm q ^ (cond t e.1 0 + exponent_of q m) ≤ norms (e ∷ m)) [
      | true ↦ λ is.
          let here : norm q ^ e.1 ≤ norm e.0 ^ e.1 =
          let size = ap (λ (p : Polynomial). norm p ^ e.1) (same_polynomial q e.0 is) in omega arith in
          omega (
            arith,
            pow-add (norm q) e.1 (exponent_of q m),
            mul-le (norm q ^ e.1) (norm q ^ exponent_of q m) (norm e.0 ^ e.1) (norms m) here rest,
            norm_first e m,
          )
      | false ↦ λ is.
          let more = mul-le 1 (norms m) (norm e.0 ^ e.1) (norms m) (power_some (norm e.0) e.1 some.0) (omega arith) in
          omega (arith, ap (λ n. norm q ^ n) (none (exponent_of q m)), norm_first e m, more, rest)
    ] refl
  where
    none : (n : ℕ) → 0 + n ≡ n
    none n = omega arith

-- and so its degree, as often as its exponent says
degree_within : (q : Polynomial) (m : FactorMap) → exponent_of q m * poly_degree q ≤ degrees m
degree_within q [] = omega arith
degree_within q (e ∷ m) =
    let rest = degree_within q m in
    elim (eq_by_cmp order q e.0) as (λ t. eq_by_cmp order q e.0 ≡ t →
    (cond t e.1 0 + exponent_of q m) * poly_degree q ≤ degrees (e ∷ m)) [
      | true ↦ λ is.
          let height = ap (λ (p : Polynomial). e.1 * poly_degree p) (same_polynomial q e.0 is) in
          omega (arith, height, degree_first e m, rest)
      | false ↦ λ is. omega (arith, degree_first e m, rest)
    ] refl

-- a polynomial with an exponent is a factor
there : (q : Polynomial) (m : FactorMap) → Each IsFactor m → 0 < exponent_of q m → IsFactor q
there q [] h some = absurd (omega arith)
there q (e ∷ m) h some =
    elim (eq_by_cmp order q e.0) as (λ t. eq_by_cmp order q e.0 ≡ t → 0 < cond t e.1 0 + exponent_of q m → IsFactor q) [
      | true ↦ λ is more. subst IsFactor (sym (same_polynomial q e.0 is)) h.0
      | false ↦ λ is more. there q m h.1 (omega (arith, more))
    ] refl some

power_of_two : (n k : ℕ) → 2 ≤ n → n ^ k ≤ MAX → k ≤ 127
power_of_two n k two small =
    elim (nat_lt 127 k) as (λ b. nat_lt 127 k ≡ b → k ≤ 127) [
      | true ↦ λ e.
          let large = pow_mono {i = 128} {j = k} (ltb-true 127 k e) in
          let more = pow-le-pow_left two k in
          absurd (omega (arith, large, more, small))
      | false ↦ λ e. ltb-false 127 k e
    ] refl

pub exponent_within : (q : Polynomial) (m : FactorMap) → Each IsFactor m → norms m ≤ MAX → degrees m ≤ MAX_DEGREE →
    exponent_of q m ≤ MAX_POWER
exponent_within q m h light low =
    elim (nat_lt 0 (exponent_of q m)) as (λ b. nat_lt 0 (exponent_of q m) ≡ b → exponent_of q m ≤ MAX_POWER) [
      | true ↦ λ e.
          let is = there q m h (ltb-true 0 (exponent_of q m) e) in
          elim (nat_lt 0 (poly_degree q)) as (λ b. nat_lt 0 (poly_degree q) ≡ b → exponent_of q m ≤ MAX_POWER) [
            | true ↦ λ f.
                let some = ltb-true 0 (poly_degree q) f in
                let more = mul-le (exponent_of q m) 1 (exponent_of q m) (poly_degree q) (omega arith) some in
                omega (arith, more, degree_within q m, low)
            | false ↦ λ f.
                let none = ltb-false 0 (poly_degree q) f in
                let large : 2 ≤ norm q = omega (arith, none, is.no_unit) in
                let few = power_of_two (norm q) (exponent_of q m) large
                (omega (arith, norm_within q m (each_some m h), light)) in
                omega (arith, few)
          ] refl
      | false ↦ λ e. let none = ltb-false 0 (exponent_of q m) e in omega (arith, none)
    ] refl
