-- Bounds on powers as far as the limits.
use Rattle.std.specs.Prelude.{◌≡◌, ℕ, zero, suc, ◌+◌, ◌*◌, ◌^◌, ◌<◌, List, min, sum_by}
use Rattle.std.proofs.Common.{sym, ap, subst, ◌∙◌, arith}
use Rattle.std.proofs.Math.Nat.{pow-zero, pow-succ'}
use Rattle.std.proofs.lemmas.List.Sums.{sum_by-append}
use Rattle.alg_mono.specs.NumberedPolynomials.{Polynomial}
use Rattle.alg_mono.specs.Outcomes.{norm_product}
use Rattle.alg_mono.specs.Polynomials.{poly_degree}
use Rattle.alg_check.specs.declared.bounds.Size.{Size}
use Rattle.alg_check.specs.Bounds.{IsSize, IsSizeOf, IsSound, norm_end, degree_end}
use Rattle.alg_check.specs.Factors.{repeated}
use Rattle.alg_check.proofs.Sizes.{capped_times, capped_plus, norm_product-append, both_sound}

-- a power of what is capped, capped
capped_power : (k m n : ℕ) → 0 < k → min (min m k ^ n) k ≡ min (m ^ n) k
capped_power k m zero some = (λ i. min (one i) k)
  where
    one : min m k ^ zero ≡ m ^ zero
    one = pow-zero (min m k) ∙ sym (pow-zero m)
capped_power k m (suc n) some =
    let x = min m k in
    ap (λ y. min y k) (pow-succ' x n)
    ∙ sym (capped_times k x (x ^ n) some)
    ∙ ap (λ y. min (min x k * y) k) (capped_power k m n some)
    ∙ ap (λ y. min (y * min (m ^ n) k) k) (twice m k)
    ∙ capped_times k m (m ^ n) some ∙ ap (λ y. min y k) (sym (pow-succ' m n))
  where
    twice : (m k : ℕ) → min (min m k) k ≡ min m k
    twice m k = omega arith

capped_many : (k m n : ℕ) → min (n * min m k) k ≡ min (n * m) k
capped_many k m zero = (λ i. min (none i) k)
  where
    none : zero * min m k ≡ zero * m
    none = omega arith
capped_many k m (suc n) =
    ap (λ y. min y k) (next n (min m k))
    ∙ sym (capped_plus k (n * min m k) (min m k))
    ∙ (λ i. min (capped_many k m n i + twice m k i) k)
    ∙ capped_plus k (n * m) m ∙ ap (λ y. min y k) (sym (next n m))
  where
    next : (n x : ℕ) → suc n * x ≡ n * x + x
    next n x = omega arith

    twice : (m k : ℕ) → min (min m k) k ≡ min m k
    twice m k = omega arith

pub power_size : (a s : Size) (n : ℕ) → s.norm ≡ min (a.norm ^ n) norm_end →
    s.degree ≡ min (n * a.degree) degree_end → (m d : ℕ) → IsSize m d a → IsSize (m ^ n) (n * d) s
power_size a s n norm degree m d size = (
  norm ∙ ap (λ x. min (x ^ n) norm_end) size.0 ∙ capped_power norm_end m n (omega arith),
  degree ∙ ap (λ x. min (n * x) degree_end) size.1 ∙ capped_many degree_end d n,
)

-- the size of a list so many times
norms-repeated : (n : ℕ) (ps : List Polynomial) → norm_product (repeated n ps) ≡ norm_product ps ^ n
norms-repeated zero ps = sym (pow-zero (norm_product ps))
norms-repeated (suc n) ps =
    norm_product-append (repeated n ps) ps ∙ ap (λ x. x * norm_product ps) (norms-repeated n ps)
    ∙ swapped (norm_product ps ^ n) (norm_product ps) ∙ sym (pow-succ' (norm_product ps) n)
  where
    swapped : (m n : ℕ) → m * n ≡ n * m
    swapped m n = omega arith

degrees-repeated : (n : ℕ) (ps : List Polynomial) → sum_by poly_degree (repeated n ps) ≡ n * sum_by poly_degree ps
degrees-repeated zero ps = none (sum_by poly_degree ps)
  where
    none : (m : ℕ) → 0 ≡ zero * m
    none m = omega arith
degrees-repeated (suc n) ps =
    let rest = degrees-repeated n ps in omega (arith, sum_by-append poly_degree (repeated n ps) ps, rest)

sound-repeated : (n : ℕ) (ps : List Polynomial) → IsSound ps → IsSound (repeated n ps)
sound-repeated zero ps sound = λ none. absurd (cc)
sound-repeated (suc n) ps sound = both_sound (repeated n ps) ps (sound-repeated n ps sound) sound

pub repeated_size : (n : ℕ) (ps : List Polynomial) (a s : Size) → IsSizeOf ps a →
    ((m d : ℕ) → IsSize m d a → IsSize (m ^ n) (n * d) s) → IsSizeOf (repeated n ps) s
repeated_size n ps a s size power =
    let P : ℕ → ℕ → Type 0 = λ m d. IsSize m d s in
    let whole = power (norm_product ps) (sum_by poly_degree ps) size.0 in (
      subst (λ d. P (norm_product (repeated n ps)) d) (sym (degrees-repeated n ps))
          (subst (λ m. P m (n * sum_by poly_degree ps)) (sym (norms-repeated n ps)) whole),
      sound-repeated n ps size.1,
    )
