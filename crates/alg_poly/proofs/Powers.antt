-- The power before the last keeps the limits of a power, and one more factor makes the power.
use Rattle.std.specs.Prelude.{◌≡◌, ℕ, zero, suc, ◌+◌, ◌-◌, ◌*◌, ◌^◌, ◌<◌, ◌≤◌, []}
use Rattle.std.proofs.Common.{sym, ap, arith}
use Rattle.std.proofs.Math.Nat.{pow-zero, pow-suc, pow-succ', mul-le-mul_right}
use Rattle.std.proofs.lemmas.Nat.{mul-le}
use Rattle.std.specs.Ordering.{nat_cmp}
use Rattle.std.specs.Cmp.{nat_cmp_total}
use Rattle.std.specs.FinMap.{nat_cmp-IsAntisymmetric}
use Rattle.alg_mono.specs.Monomials.{mono_times, MAX_DEGREE}
use Rattle.alg_mono.specs.Numbers.{integers}
use Rattle.alg_mono.specs.Polynomials.{IsPolynomial, MAX, norm, poly_degree}
use Rattle.alg_mono.specs.NumberedPolynomials.{Polynomial, before, product_of, power_of}
use Rattle.alg_mono.proofs.Closure.{IsPolynomial-power}
use Rattle.alg_mono.proofs.Degrees.{degree-poly_power}
use Rattle.alg_mono.proofs.Norms.{norm-poly_power}
use Rattle.alg_mono.proofs.Numbers.{integer_laws}

-- one factor fewer is no more than the limit
fewer : (a k : ℕ) → a ^ suc k ≤ MAX → a ^ k ≤ MAX
fewer zero zero f = omega (arith, pow-zero zero)
fewer zero (suc k) f = omega (arith, pow-suc zero k)
fewer (suc a) k f =
    let grows = mul-le-mul_right (suc a ^ k) (let h : 1 ≤ suc a = omega arith in h) in
    omega (arith, pow-succ' (suc a) k)

module _ (p : Polynomial) (n : ℕ) (some : 0 < n) (norms : norm p ^ n ≤ MAX)
    (degrees : n * poly_degree p ≤ MAX_DEGREE) where
  before_last : n ≡ suc (n - 1)
  before_last = omega arith

  last_norms : norm p ^ suc (n - 1) ≤ MAX
  last_norms = omega (arith, ap (λ m. norm p ^ m) before_last)

  last_degrees : suc (n - 1) * poly_degree p ≤ MAX_DEGREE
  last_degrees = omega (arith, ap (λ m. m * poly_degree p) before_last)

  pub rest_norm : norm p ^ (n - 1) ≤ MAX
  rest_norm = fewer (norm p) (n - 1) last_norms

  pub rest_degree : (n - 1) * poly_degree p ≤ MAX_DEGREE
  rest_degree = let d = last_degrees in omega arith

  pub factor_norm : norm p * norm (power_of p (n - 1)) ≤ MAX
  factor_norm =
      let small = norm-poly_power before (mono_times nat_cmp) [] p (n - 1) in
      omega (
        arith,
        pow-succ' (norm p) (n - 1),
        last_norms,
        mul-le (norm p) (norm (power_of p (n - 1))) (norm p) (norm p ^ (n - 1)) (omega arith) small,
      )

  pub factor_degree : poly_degree p + poly_degree (power_of p (n - 1)) ≤ MAX_DEGREE
  factor_degree =
      let small = degree-poly_power integers nat_cmp_total nat_cmp-IsAntisymmetric p (n - 1) in
      let d = last_degrees in
      omega arith

  pub factor_is : product_of p (power_of p (n - 1)) ≡ power_of p n
  factor_is = ap (power_of p) (sym before_last)

  pub rest_sound : IsPolynomial nat_cmp integers p → IsPolynomial nat_cmp integers (power_of p (n - 1))
  rest_sound h = IsPolynomial-power integer_laws nat_cmp_total nat_cmp-IsAntisymmetric p (n - 1) h
