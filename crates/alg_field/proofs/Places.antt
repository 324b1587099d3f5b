-- The place of a factor in a list.
use Rattle.std.specs.Prelude.{◌≡◌, ◌≢◌, ℕ, zero, suc, ◌+◌, ◌<◌, ◌≤◌, true, false, cond, [], ◌∷◌, ◌++◌, length, drop, slice_set}
use Rattle.std.proofs.Common.{get_or, refl, sym, ap, subst, ◌∙◌, arith}
use Rattle.std.specs.Ordering.{eq_by_cmp}
use Rattle.alg_mono.specs.NumberedPolynomials.{Polynomial}
use Rattle.alg_mono.proofs.MergeTurns.{drop_at}
use Rattle.alg_reify.specs.FactorMaps.{FactorMap, order, exponent_of}
use Rattle.alg_field.specs.Lists.{put, place_of}
use Rattle.alg_reify.proofs.FactorLists.{itself, differs}

pub place_turn : (q : Polynomial) (es : FactorMap) (i : ℕ) (x d : Polynomial × ℕ) → i < length es →
    x ≡ get_or es i d → x.0 ≢ q → (i + 1) + place_of q (drop (i + 1) es) ≡ i + place_of q (drop i es)
place_turn q es i x d h e other =
    let rest = drop (i + 1) es in
    let here : place_of q (drop i es) ≡ 1 + place_of q rest = ap (place_of q) (drop_at es i x d h e)
    ∙ ap (λ t. cond t 0 (1 + place_of q rest)) (differs q x.0 other) in
    omega (arith, here)

pub place_found : (q : Polynomial) (es : FactorMap) (i : ℕ) (x d : Polynomial × ℕ) → i < length es →
    x ≡ get_or es i d → x.0 ≡ q → i + place_of q (drop i es) ≡ i
place_found q es i x d h e is =
    let rest = drop (i + 1) es in
    let here : place_of q (drop i es) ≡ 0 = ap (place_of q) (drop_at es i x d h e)
    ∙ ap (λ t. cond t 0 (1 + place_of q rest)) (subst (λ p. eq_by_cmp order q p ≡ true) (sym is) (itself q)) in
    omega (arith, here)

pub place_nowhere : (q : Polynomial) (es : FactorMap) (i : ℕ) → length es ≤ i → i + place_of q (drop i es) ≡ i
place_nowhere q [] zero h = refl
place_nowhere q [] (suc i) h = omega arith
place_nowhere q (e ∷ es) zero h = absurd (omega arith)
place_nowhere q (e ∷ es) (suc i) h = let rest = place_nowhere q es i (omega arith) in omega (arith, rest)

-- a step in a list
one_more : (n : ℕ) → 1 + n ≡ suc n
one_more n = omega arith

-- the factor at its place, with e more
pub put_there : (q : Polynomial) (e : ℕ) (es : FactorMap) (x : Polynomial × ℕ) → place_of q es < length es →
    x ≡ get_or es (place_of q es) x →
    (slice_set es (place_of q es) (x.0, x.1 + e) ≡ put q e es) × (x.1 ≤ exponent_of q es)
put_there q e [] x l is = absurd (omega arith)
put_there q e (f ∷ es) x l is =
    let p = place_of q es in
    elim (eq_by_cmp order q f.0) as (λ t. cond t 0 (1 + p) < length (f ∷ es) →
    x ≡ get_or (f ∷ es) (cond t 0 (1 + p)) x →
    (slice_set (f ∷ es) (cond t 0 (1 + p)) (x.0, x.1 + e) ≡ cond t ((f.0, f.1 + e) ∷ es) (f ∷ put q e es))
    × (x.1 ≤ cond t f.1 0 + exponent_of q es)) [
      | true ↦ λ l is. ((λ i. ((is i).0, (is i).1 + e) ∷ es), at_most x.1 f.1 (exponent_of q es) (λ i. (is i).1))
      | false ↦ λ l is.
          let rest = put_there q e es x (omega (arith, l))
          (subst (λ n. x ≡ get_or (f ∷ es) n x) (one_more p) is) in (
            ap (λ n. slice_set (f ∷ es) n (x.0, x.1 + e)) (one_more p) ∙ ap (λ r. f ∷ r) rest.0,
            omega (arith, rest.1),
          )
    ] l is
  where
    at_most : (n m s : ℕ) → n ≡ m → n ≤ m + s
    at_most n m s i = omega arith

-- a factor that was not there
pub put_last : (q : Polynomial) (e : ℕ) (es : FactorMap) → length es ≤ place_of q es → put q e es ≡ es ++ (q, e) ∷ []
put_last q e [] l = refl
put_last q e (f ∷ es) l =
    let p = place_of q es in
    elim (eq_by_cmp order q f.0) as (λ t. length (f ∷ es) ≤ cond t 0 (1 + p) →
    cond t ((f.0, f.1 + e) ∷ es) (f ∷ put q e es) ≡ f ∷ (es ++ (q, e) ∷ [])) [
      | true ↦ λ l. absurd (omega (arith, l))
      | false ↦ λ l. ap (λ r. f ∷ r) (put_last q e es (omega (arith, l)))
    ] l

pub put_at : (q : Polynomial) (e : ℕ) (es : FactorMap) (k : ℕ) (x : Polynomial × ℕ) → k ≡ place_of q es →
    k < length es → x ≡ get_or es k x →
    (slice_set es k (x.0, x.1 + e) ≡ put q e es) × (x.1 ≤ exponent_of q es)
put_at q e es k x at =
    let P : ℕ → Type 0 = λ n. n < length es → x ≡ get_or es n x →
    (slice_set es n (x.0, x.1 + e) ≡ put q e es) × (x.1 ≤ exponent_of q es) in
    subst P (sym at) (put_there q e es x)
