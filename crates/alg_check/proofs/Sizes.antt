-- Bounds on products as far as the limits.
use Rattle.std.specs.Prelude.{◌≡◌, ◌≢◌, ℕ, zero, suc, ◌+◌, ◌*◌, ◌<◌, ◌≤◌, true, false, ◌||◌, cond, List, [], ◌∷◌, ◌++◌, min, nat_lt, sum_by}
use Rattle.std.proofs.Common.{refl, sym, ap, subst, ◌∙◌, arith}
use Rattle.std.proofs.lemmas.Bool.{ltb-true, ltb-false}
use Rattle.std.proofs.lemmas.List.Sums.{sum_by-append, sum_by-cons}
use Rattle.std.proofs.lemmas.Nat.{mul-le}
use Rattle.std.proofs.Math.Nat.{mul_assoc}
use Rattle.std.specs.declared.result.Result.{Result}
use Rattle.alg_mono.specs.declared.ends.Overrun.{Overrun}
use Rattle.alg_mono.specs.Monomials.{MAX_DEGREE}
use Rattle.alg_mono.specs.NumberedPolynomials.{Polynomial}
use Rattle.alg_mono.specs.Outcomes.{Outcome, outcome, has_zero, is_nothing, norm_product, product_outcome}
use Rattle.alg_mono.specs.Polynomials.{MAX, norm, poly_degree}
use Rattle.alg_mono.proofs.Outcomes.{said, says_at}
use Rattle.alg_reify.specs.Preparing.{times_each}
use Rattle.alg_reify.proofs.ProductRules.{first_nothing, some_nothing}
use Rattle.alg_check.specs.declared.bounds.Size.{Size}
use Rattle.alg_check.specs.Bounds.{IsSize, IsSizeOf, IsSound, Fits, sized, norm_end, degree_end}

-- ---- numbers as far as a limit
min_low : (m k : ℕ) → m ≤ k → min m k ≡ m
min_low m k h = omega arith

min_high : (m k : ℕ) → k ≤ m → min m k ≡ k
min_high m k h = omega arith

swapped : (m n : ℕ) → m * n ≡ n * m
swapped m n = omega arith

-- the first is over the limit
over_first : (k m n : ℕ) → 0 < k → k ≤ m → min (k * min n k) k ≡ min (m * n) k
over_first k m zero some h =
    ap (λ x. min (k * x) k) (min_low zero k (omega arith)) ∙ ap (λ x. min x k) (none k m)
  where
    none : (k m : ℕ) → k * zero ≡ m * zero
    none k m = omega arith
over_first k m (suc n) some h =
    let least : 1 ≤ min (suc n) k = omega arith in
    let low : k * 1 ≤ k * min (suc n) k = mul-le k 1 k (min (suc n) k) (omega arith) least in
    let more : m * 1 ≤ m * suc n = mul-le m 1 m (suc n) (omega arith) (omega arith) in
    min_high (k * min (suc n) k) k (omega (arith, low)) ∙ sym (min_high (m * suc n) k (omega (arith, more, h)))

pub capped_times : (k m n : ℕ) → 0 < k → min (min m k * min n k) k ≡ min (m * n) k
capped_times k m n some =
    elim (nat_lt m k) as (λ b. nat_lt m k ≡ b → min (min m k * min n k) k ≡ min (m * n) k) [
      | true ↦ λ e.
          let low : min m k ≡ m = (let h = ltb-true m k e in min_low m k (omega arith)) in
          elim (nat_lt n k) as (λ b. nat_lt n k ≡ b → min (min m k * min n k) k ≡ min (m * n) k) [
            | true ↦ λ f.
                let small : min n k ≡ n = (let h = ltb-true n k f in min_low n k (omega arith)) in
                λ i. min (low i * small i) k
            | false ↦ λ f.
                let high = ltb-false n k f in
                ap (λ x. min x k) (swapped (min m k) (min n k))
                ∙ ap (λ x. min (x * min m k) k) (min_high n k high)
                ∙ over_first k n m some high ∙ ap (λ x. min x k) (swapped n m)
          ] refl
      | false ↦ λ e.
          let high = ltb-false m k e in
          ap (λ x. min (x * min n k) k) (min_high m k high) ∙ over_first k m n some high
    ] refl

pub capped_plus : (k m n : ℕ) → min (min m k + min n k) k ≡ min (m + n) k
capped_plus k m n = omega arith

-- the size of a product of two
pub times_size : (a b s : Size) → s.norm ≡ min (a.norm * b.norm) norm_end →
    s.degree ≡ min (a.degree + b.degree) degree_end → (m n d e : ℕ) → IsSize m d a → IsSize n e b →
    IsSize (m * n) (d + e) s
times_size a b s norm degree m n d e first second = (
  norm ∙ (λ i. min (first.0 i * second.0 i) norm_end) ∙ capped_times norm_end m n (omega arith),
  degree ∙ (λ i. min (first.1 i + second.1 i) degree_end) ∙ capped_plus degree_end d e,
)

-- ---- the rule that a size breaks
pub sized_great : (n d : ℕ) → MAX < n → sized n d ≡ Outcome.Range
sized_great zero d h = absurd (omega arith)
sized_great (suc n) d h = said (suc n) d Outcome.Range h

pub sized_high : (n d : ℕ) → 0 < n → n ≤ MAX → MAX_DEGREE < d → sized n d ≡ Outcome.Degree
sized_high zero d some h g = absurd (omega arith)
sized_high (suc n) d some h g = said (suc n) d Outcome.Degree (h, g)

pub sized_fine : (n d : ℕ) → n ≤ MAX → d ≤ MAX_DEGREE → sized n d ≡ Outcome.Fine
sized_fine zero d h g = refl
sized_fine (suc n) d h g = said (suc n) d Outcome.Fine (h, g)

pub sized_nothing : (n d : ℕ) → n ≡ 0 → sized n d ≡ Outcome.Fine
sized_nothing n d none = ap (λ k. sized k d) none

-- ---- products with and without a factor 0
pub zero_product : (ps : List Polynomial) → has_zero ps ≡ true → norm_product ps ≡ 0
zero_product [] h = absurd (cc)
zero_product ([] ∷ ps) h = nothing (norm_product ps)
  where
    nothing : (n : ℕ) → 0 * n ≡ 0
    nothing n = omega arith
zero_product ((t ∷ p) ∷ ps) h =
    ap (λ n. norm (t ∷ p) * n) (zero_product ps h) ∙ nothing (norm (t ∷ p))
  where
    nothing : (n : ℕ) → n * 0 ≡ 0
    nothing n = omega arith

-- the bounds tell which rule a product breaks
pub product_sized : (ps : List Polynomial) → IsSound ps →
    sized (norm_product ps) (sum_by poly_degree ps) ≡ product_outcome ps
product_sized ps sound =
    let size = norm_product ps in
    let degree = sum_by poly_degree ps in
    elim (has_zero ps) as (λ b. has_zero ps ≡ b → sized size degree ≡ cond b Outcome.Fine (outcome size degree)) [
      | true ↦ λ e. sized_nothing size degree (zero_product ps e)
      | false ↦ λ e. some size degree (λ none. let is = sound none in absurd (cc))
    ] refl
  where
    some : (n d : ℕ) → n ≢ 0 → sized n d ≡ outcome n d
    some zero d h = absurd (h refl)
    some (suc n) d h = refl

-- ---- one more factor, at either end
product_some : (a b : ℕ) → a * b ≡ 0 → (a ≡ 0 → ⊥) → b ≡ 0
product_some a zero h some = refl
product_some zero (suc b) h some = absurd (some refl)
product_some (suc a) (suc b) h some = absurd (omega (arith, h))

pub first_sound : (p : Polynomial) (ps : List Polynomial) → (norm p ≡ 0 → is_nothing p ≡ true) → IsSound ps →
    IsSound (p ∷ ps)
first_sound [] ps own rest none = refl
first_sound (t ∷ p) ps own rest none =
    rest (product_some (norm (t ∷ p)) (norm_product ps) none (λ z. let is = own z in absurd (cc)))

pub norm_product-append : (ps qs : List Polynomial) → norm_product (ps ++ qs) ≡ norm_product ps * norm_product qs
norm_product-append [] qs = omega arith
norm_product-append (p ∷ ps) qs =
    ap (λ n. norm p * n) (norm_product-append ps qs) ∙ sym (mul_assoc (norm p) (norm_product ps) (norm_product qs))

has_zero-append : (ps qs : List Polynomial) → has_zero (ps ++ qs) ≡ has_zero ps || has_zero qs
has_zero-append [] qs = refl
has_zero-append ([] ∷ ps) qs = refl
has_zero-append ((t ∷ p) ∷ ps) qs = has_zero-append ps qs

pub both_sound : (ps qs : List Polynomial) → IsSound ps → IsSound qs → IsSound (ps ++ qs)
both_sound [] qs first second none = second none
both_sound ([] ∷ ps) qs first second none = refl
both_sound ((t ∷ p) ∷ ps) qs first second none =
    elim (has_zero ps) as (λ b. has_zero ps ≡ b → has_zero (ps ++ qs) ≡ true) [
      | true ↦ λ e. has_zero-append ps qs ∙ ap (λ b. b || has_zero qs) e
      | false ↦ λ e. has_zero-append ps qs ∙ ap (λ b. b || has_zero qs) e
          ∙ second (product_some (norm_product ((t ∷ p) ∷ ps)) (norm_product qs)
          (sym (norm_product-append ((t ∷ p) ∷ ps) qs) ∙ none) (λ z. let is = first z in absurd (cc)))
    ] refl

pub both_sizes : (ps qs : List Polynomial) (a b s : Size) → IsSizeOf ps a → IsSizeOf qs b →
    ((m n d e : ℕ) → IsSize m d a → IsSize n e b → IsSize (m * n) (d + e) s) → IsSizeOf (ps ++ qs) s
both_sizes ps qs a b s first second times =
    let P : ℕ → ℕ → Type 0 = λ n d. IsSize n d s in
    let whole = times (norm_product ps) (norm_product qs) (sum_by poly_degree ps) (sum_by poly_degree qs) first.0
    second.0 in (
      subst (λ d. P (norm_product (ps ++ qs)) d) (sym (sum_by-append poly_degree ps qs))
          (subst (λ n. P n (sum_by poly_degree ps + sum_by poly_degree qs)) (sym (norm_product-append ps qs)) whole),
      both_sound ps qs first.1 second.1,
    )

-- the size of one factor
pub one_size : (p : Polynomial) (s : Size) → IsSize (norm p) (poly_degree p) s → (norm p ≡ 0 → is_nothing p ≡ true) →
    IsSizeOf (p ∷ []) s
one_size p s size sound = (
  (
    size.0 ∙ ap (λ n. min n norm_end) (one (norm p)),
    size.1 ∙ ap (λ n. min n degree_end) (last (poly_degree p)
        ∙ sym (sum_by-cons poly_degree p [])),
  ),
  first_sound p [] sound (λ none. absurd (cc)),
)
  where
    one : (n : ℕ) → n ≡ n * 1
    one n = omega arith

    last : (n : ℕ) → n ≡ n + 0
    last n = omega arith

-- ---- what a size tells of its product
module _ (p : Polynomial) (qs : List Polynomial) (s : Size) (size : IsSizeOf (p ∷ qs) s) where
  -- it is 0
  pub nothing_made : s.norm ≡ 0 → [] ≡ times_each p qs
  nothing_made none =
      let n = norm_product (p ∷ qs) in
      nothing_each p qs (size.1 (low n (sym size.0.0 ∙ none)))
    where
      low : (n : ℕ) → min n norm_end ≡ 0 → n ≡ 0
      low n e = omega (arith, e)

      nothing_each : (p : Polynomial) (qs : List Polynomial) → has_zero (p ∷ qs) ≡ true → [] ≡ times_each p qs
      nothing_each [] qs h = first_nothing [] qs refl
      nothing_each (t ∷ p) qs h = some_nothing (t ∷ p) qs h

  -- it is within the limits
  pub fine_bounds : (s.norm ≡ 0 → ⊥) → product_outcome (p ∷ qs) ≡ Outcome.Fine →
      (0 < norm_product qs) × (norm p * norm_product qs ≤ MAX)
      × (poly_degree p + sum_by poly_degree qs ≤ MAX_DEGREE)
  fine_bounds some fine =
      let n = norm_product qs in
      let whole : norm p * n ≢ 0 = λ none. some (size.0.0 ∙ ap (λ k. min k norm_end) none ∙ min_low 0 norm_end (omega
      arith)) in
      let kept = sized_says (norm p * n) (sum_by poly_degree (p ∷ qs)) whole (product_sized (p ∷ qs) size.1 ∙ fine) in (
        second (norm p) n whole,
        kept.0,
        omega (arith, sum_by-cons poly_degree p qs, kept.1),
      )
    where
      sized_says : (n d : ℕ) → n ≢ 0 → sized n d ≡ Outcome.Fine → (n ≤ MAX) × (d ≤ MAX_DEGREE)
      sized_says zero d some e = absurd (some refl)
      sized_says (suc n) d some e = says_at (suc n) d Outcome.Fine e

      second : (a b : ℕ) → a * b ≢ 0 → 0 < b
      second a zero some = absurd (some (omega arith))
      second a (suc b) some = omega arith

-- whether it is refused is the product's rule
pub fits_product : (ps : List Polynomial) (s : Size) → IsSizeOf ps s → (r : Result (Unit {0}) Overrun) →
    ((n d : ℕ) → IsSize n d s → Fits (sized n d) r) → Fits (product_outcome ps) r
fits_product ps s size r tells =
    subst (λ (o : Outcome). Fits o r) (product_sized ps size.1)
    (tells (norm_product ps) (sum_by poly_degree ps) size.0)
