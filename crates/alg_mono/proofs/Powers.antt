-- Powers add up, and the parts of a power are within its bounds.
use Rattle.std.specs.Prelude.{◌≡◌, ℕ, zero, suc, ◌+◌, ◌*◌, ◌/◌, ◌%◌, ◌^◌, ◌≤◌, [], ◌∷◌, pos}
use Rattle.std.proofs.Common.{sym, ap, ◌∙◌, arith}
use Rattle.std.proofs.Math.Nat.{pow-zero, pow-suc, pow-le-pow_right, mul-le-mul_right}
use Rattle.std.proofs.lemmas.Nat.{mul-le, pow-add}
use Rattle.std.specs.Ordering.{nat_cmp}
use Rattle.std.specs.Cmp.{nat_cmp_total}
use Rattle.std.specs.FinMap.{nat_cmp-IsAntisymmetric}
use Rattle.alg_mono.specs.Monomials.{mono_times, MAX_DEGREE}
use Rattle.alg_mono.specs.Numbers.{integers}
use Rattle.alg_mono.specs.Polynomials.{IsPolynomial, MAX, norm, poly_degree}
use Rattle.alg_mono.proofs.Closure.{IsPolynomial-power}
use Rattle.alg_mono.proofs.Degrees.{degree-poly_power}
use Rattle.alg_mono.proofs.Each.{Each-weaker}
use Rattle.alg_mono.proofs.Monomials.{mono_times_assoc, one_mono_times}
use Rattle.alg_mono.proofs.Norms.{norm-poly_power}
use Rattle.alg_mono.proofs.Numbers.{integer_laws}
use Rattle.alg_mono.proofs.Polynomials.{times_poly_assoc}
use Rattle.alg_mono.proofs.Renaming.{one_times}
use Rattle.alg_mono.specs.NumberedPolynomials.{Polynomial, before, product_of, power_of}
use Rattle.alg_mono.proofs.TermOrder.{before_total, before_anti}

IsPolynomial-power_of : (p : Polynomial) (n : ℕ) → IsPolynomial nat_cmp integers p →
    IsPolynomial nat_cmp integers (power_of p n)
IsPolynomial-power_of p n h = IsPolynomial-power integer_laws nat_cmp_total nat_cmp-IsAntisymmetric p n h

-- 1 is neutral
pub one_product : (p : Polynomial) → IsPolynomial nat_cmp integers p → product_of (([], pos 1) ∷ []) p ≡ p
one_product p h =
    one_times integer_laws before_total before_anti (mono_times nat_cmp) [] p h.canonical
    (Each-weaker (λ m c. one_mono_times nat_cmp_total nat_cmp-IsAntisymmetric m c) p h.monomials)

pub power-add : (p : Polynomial) (m n : ℕ) → IsPolynomial nat_cmp integers p →
    power_of p (m + n) ≡ product_of (power_of p m) (power_of p n)
power-add p zero n h =
    let e : zero + n ≡ n = omega arith in
    ap (power_of p) e ∙ sym (one_product (power_of p n) (IsPolynomial-power_of p n h))
power-add p (suc m) n h =
    let e : suc m + n ≡ suc (m + n) = omega arith in
    ap (power_of p) e ∙ ap (product_of p) (power-add p m n h)
    ∙ sym (times_poly_assoc integer_laws before_total before_anti (mono_times nat_cmp)
    (mono_times_assoc nat_cmp_total nat_cmp-IsAntisymmetric) p (power_of p m) (power_of p n))

small_power : (a h n : ℕ) → h ≤ n → a ^ n ≤ MAX → a ^ h ≤ MAX
small_power zero zero n k f = omega (arith, pow-zero zero)
small_power zero (suc h) n k f = omega (arith, pow-suc zero h)
small_power (suc a) h n k f =
    let grows : suc a ^ h ≤ suc a ^ n = pow-le-pow_right (omega arith) k in omega arith

-- the half of n
module _ (n : ℕ) where
  pub twice_half : n % 2 ≡ 0 → n ≡ n / 2 + n / 2
  twice_half e = omega arith

  pub twice_half_within : n / 2 + n / 2 ≤ n
  twice_half_within = omega arith

module _ (p : Polynomial) (n : ℕ) (sound : IsPolynomial nat_cmp integers p) (norms : norm p ^ n ≤ MAX)
    (degrees : n * poly_degree p ≤ MAX_DEGREE) where
  pub half_norm : norm p ^ (n / 2) ≤ MAX
  half_norm = small_power (norm p) (n / 2) n (omega (arith, twice_half_within n)) norms

  degree_within_power : (k : ℕ) → k ≤ n → k * poly_degree p ≤ MAX_DEGREE
  degree_within_power k h = let m = mul-le-mul_right (poly_degree p) h in omega arith

  pub half_degree : n / 2 * poly_degree p ≤ MAX_DEGREE
  half_degree = degree_within_power (n / 2) (omega (arith, twice_half_within n))

  pub half_sound : IsPolynomial nat_cmp integers (power_of p (n / 2))
  half_sound = IsPolynomial-power_of p (n / 2) sound

  norm_of_power : (k : ℕ) → norm (power_of p k) ≤ norm p ^ k
  norm_of_power k = norm-poly_power before (mono_times nat_cmp) [] p k

  degree_of_power : (k : ℕ) → poly_degree (power_of p k) ≤ k * poly_degree p
  degree_of_power k = degree-poly_power integers nat_cmp_total nat_cmp-IsAntisymmetric p k

  -- the square of the half
  pub square_norm : norm (power_of p (n / 2)) * norm (power_of p (n / 2)) ≤ MAX
  square_norm =
      let h = n / 2 in
      let bound = mul-le (norm (power_of p h)) (norm (power_of p h)) (norm p ^ h) (norm p ^ h) (norm_of_power h)
      (norm_of_power h) in
      omega (arith, pow-add (norm p) h h, small_power (norm p) (h + h) n (twice_half_within n) norms)

  pub square_degree : poly_degree (power_of p (n / 2)) + poly_degree (power_of p (n / 2)) ≤ MAX_DEGREE
  square_degree =
      let h = n / 2 in
      let d = degree_of_power h in
      let w = degree_within_power (h + h) (twice_half_within n) in
      omega arith

  pub square_is : product_of (power_of p (n / 2)) (power_of p (n / 2)) ≡ power_of p (n / 2 + n / 2)
  square_is = sym (power-add p (n / 2) (n / 2) sound)
