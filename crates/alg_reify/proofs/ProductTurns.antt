-- The turns of loops over the factors of a product.
use Rattle.std.specs.Prelude.{◌≡◌, ℕ, zero, suc, ◌+◌, ◌*◌, ◌<◌, ◌≤◌, true, false, ◌||◌, List, ◌∷◌, sum_by, length, drop}
use Rattle.std.proofs.Common.{get_or, refl, sym, ap, subst, ◌∙◌, arith}
use Rattle.std.proofs.Math.Nat.{mul_assoc}
use Rattle.std.proofs.lemmas.Nat.{mul-le}
use Rattle.std.proofs.lemmas.List.Sums.{sum_by-cons}
use Rattle.std.specs.Ordering.{nat_cmp}
use Rattle.std.specs.Cmp.{nat_cmp_total}
use Rattle.std.specs.FinMap.{nat_cmp-IsAntisymmetric}
use Rattle.alg_mono.specs.Monomials.{MAX_DEGREE, mono_times}
use Rattle.alg_mono.specs.NumberedPolynomials.{Polynomial, before, product_of}
use Rattle.alg_mono.specs.Numbers.{integers}
use Rattle.alg_mono.specs.Outcomes.{has_zero, is_nothing, norm_product}
use Rattle.alg_mono.specs.Polynomials.{MAX, norm, poly_degree}
use Rattle.alg_mono.proofs.Degrees.{degree-poly_times}
use Rattle.alg_mono.proofs.MergeTurns.{drop_at}
use Rattle.alg_mono.proofs.Norms.{norm-poly_times}
use Rattle.alg_reify.specs.Preparing.{times_each}

-- the sum of the degrees
abbrev pub degrees : List Polynomial → ℕ
degrees ps = sum_by poly_degree ps

pub product_some : (a b : ℕ) → 0 < a → 0 < b → 0 < a * b
product_some a b h g =
    let at : 1 * 1 ≤ a * b = mul-le 1 1 a b (omega arith) (omega arith) in omega (arith, at)

pub second_some : (a b : ℕ) → 0 < a * b → 0 < b
second_some a zero h = absurd (omega arith)
second_some a (suc b) h = omega arith

pub times_more : (a b : ℕ) → 0 < b → a ≤ a * b
times_more a b g = let at : a * 1 ≤ a * b = mul-le a 1 a b (omega arith) (omega arith) in omega (arith, at)

module _ (ps : List Polynomial) (i : ℕ) (x d : Polynomial) (h : i < length ps) (e : x ≡ get_or ps i d) where
  abbrev rest : List Polynomial
  rest = drop (i + 1) ps

  from : drop i ps ≡ x ∷ rest
  from = drop_at ps i x d h e

  -- whether one is zero
  pub zero_turn : is_nothing x ≡ false → has_zero (drop i ps) ≡ has_zero ps → has_zero rest ≡ has_zero ps
  zero_turn some is = sym (ap (λ b. b || has_zero rest) some) ∙ sym (ap (λ qs. has_zero qs) from) ∙ is

  pub zero_here : is_nothing x ≡ true → has_zero (drop i ps) ≡ has_zero ps → true ≡ has_zero ps
  zero_here none is = sym (ap (λ b. b || has_zero rest) none) ∙ sym (ap (λ qs. has_zero qs) from) ∙ is

  pub some_turn : 0 < norm x → (0 < norm_product (drop i ps) → 0 < norm_product ps) → 0 < norm_product rest →
      0 < norm_product ps
  some_turn some to left =
      to (subst (λ (qs : List Polynomial). 0 < norm_product qs) (sym from)
      (product_some (norm x) (norm_product rest) some left))

  -- the norms
  norms_from : norm_product (drop i ps) ≡ norm x * norm_product rest
  norms_from = ap (λ (qs : List Polynomial). norm_product qs) from

  pub norms_left : 0 < norm_product (drop i ps) → 0 < norm_product rest
  norms_left some = second_some (norm x) (norm_product rest) (omega (arith, norms_from, some))

  pub norms_turn : (bound all : ℕ) → bound * norm_product (drop i ps) ≡ all → (bound * norm x) * norm_product rest ≡ all
  norms_turn bound all is =
      mul_assoc bound (norm x) (norm_product rest) ∙ ap (λ n. bound * n) (sym norms_from) ∙ is

  pub norms_over : (bound all : ℕ) → bound * norm_product (drop i ps) ≡ all → 0 < norm_product (drop i ps) →
      bound * norm x ≤ all
  norms_over bound all is some =
      let more = times_more (bound * norm x) (norm_product rest) (norms_left some) in
      omega (arith, more, norms_turn bound all is)

  -- the degrees
  pub degrees_from : degrees (drop i ps) ≡ poly_degree x + degrees rest
  degrees_from = ap (λ (qs : List Polynomial). degrees qs) from ∙ sum_by-cons poly_degree x rest

  -- the product
  pub each_turn : (out next : Polynomial) → next ≡ product_of out x →
      times_each next rest ≡ times_each out (drop i ps)
  each_turn out next made = ap (λ p. times_each p rest) made ∙ sym (ap (λ qs. times_each out qs) from)

  pub norms_next : (out next : Polynomial) → next ≡ product_of out x →
      norm out * norm_product (drop i ps) ≤ MAX → norm next * norm_product rest ≤ MAX
  norms_next out next made small =
      let light : norm next ≤ norm out * norm x =
      omega (arith, ap (λ (p : Polynomial). norm p) made, norm-poly_times before (mono_times nat_cmp) out x) in
      let bound = mul-le (norm next) (norm_product rest) (norm out * norm x) (norm_product rest) light (omega arith) in
      omega (arith, bound, norms_turn (norm out) (norm out * norm_product (drop i ps)) refl, small)

  pub degrees_next : (out next : Polynomial) → next ≡ product_of out x →
      poly_degree out + degrees (drop i ps) ≤ MAX_DEGREE → poly_degree next + degrees rest ≤ MAX_DEGREE
  degrees_next out next made small =
      omega (
        arith,
        ap (λ (p : Polynomial). poly_degree p) made,
        degree-poly_times integers nat_cmp_total nat_cmp-IsAntisymmetric out x,
        degrees_from,
        small,
      )
