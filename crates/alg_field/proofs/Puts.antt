-- Lists of factors with more factors put in.
use Rattle.std.specs.Prelude.{◌≡◌, Bool, ℕ, ◌+◌, ◌<◌, ◌≤◌, true, false, cond, [], ◌∷◌, ◌++◌, length, drop}
use Rattle.std.proofs.Common.{get_or, refl, sym, ap, subst, ◌∙◌, T, arith}
use Rattle.std.specs.Ordering.{eq_by_cmp}
use Rattle.alg_mono.specs.NumberedPolynomials.{Polynomial}
use Rattle.alg_mono.proofs.Numbers.{exponent_laws}
use Rattle.alg_mono.proofs.Canonical.{IsCanonical-collect, equal}
use Rattle.alg_mono.proofs.Lcm.{exponent-mono_over}
use Rattle.alg_mono.proofs.Monomials.{exponent-mono_times}
use Rattle.alg_mono.proofs.MergeTurns.{drop_at}
use Rattle.alg_reify.specs.FactorMaps.{FactorMap, order, exponent_of, times_map, lacks, map_of}
use Rattle.alg_field.specs.Lists.{IsList, IsFactor, MAX_POWER, put, put_all}
use Rattle.alg_reify.proofs.FactorOrder.{order_total, order_anti}
use Rattle.alg_reify.proofs.FactorLists.{exponent-map_of, same_map, itself, differs}

pub exponent-put : (q k : Polynomial) (n : ℕ) (es : FactorMap) →
    exponent_of q (put k n es) ≡ exponent_of q es + cond (eq_by_cmp order q k) n 0
exponent-put q k n [] = swapped (cond (eq_by_cmp order q k) n 0)
  where
    swapped : (m : ℕ) → m + 0 ≡ 0 + m
    swapped m = omega arith
exponent-put q k n (f ∷ es) =
    let add = λ (p : Polynomial) (m : ℕ). cond (eq_by_cmp order q p) m 0 in
    elim (eq_by_cmp order k f.0) as (λ t. eq_by_cmp order k f.0 ≡ t →
    exponent_of q (cond t ((f.0, f.1 + n) ∷ es) (f ∷ put k n es)) ≡ (add f.0 f.1 + exponent_of q es) + add k n) [
      | true ↦ λ e.
          let is : k ≡ f.0 = order_anti k f.0 (equal _ (subst T (sym e) tt)) in
          sum_at (eq_by_cmp order q f.0) f.1 n (exponent_of q es)
          ∙ ap (λ p. (add f.0 f.1 + exponent_of q es) + add p n) (sym is)
      | false ↦ λ e. later (add f.0 f.1) (exponent_of q (put k n es)) (exponent_of q es) (add k n)
          (exponent-put q k n es)
    ] refl
  where
    sum_at : (t : Bool) (x y s : ℕ) → cond t (x + y) 0 + s ≡ (cond t x 0 + s) + cond t y 0
    sum_at true x y s = omega arith
    sum_at false x y s = omega arith

    later : (a l s n : ℕ) → l ≡ s + n → a + l ≡ (a + s) + n
    later a l s n i = omega arith

-- the list stays one
pub IsList-put : (k : Polynomial) (n : ℕ) (es : FactorMap) → exponent_of k es + n ≤ MAX_POWER → IsFactor k → IsList es →
    IsList (put k n es)
IsList-put k n [] small is h = (refl, omega arith, is, tt)
IsList-put k n (f ∷ es) small is h =
    elim (eq_by_cmp order k f.0) as (λ t. eq_by_cmp order k f.0 ≡ t →
    cond t f.1 0 + exponent_of k es + n ≤ MAX_POWER → IsList (cond t ((f.0, f.1 + n) ∷ es) (f ∷ put k n es))) [
      | true ↦ λ e s. (h.0, omega (arith, s), h.2, h.3)
      | false ↦ λ e s. (
        exponent-put f.0 k n es ∙ still _ _ h.0 (ap (λ t. cond t n 0) (differs f.0 k (λ is. other k f.0 is e))),
        h.1,
        h.2,
        IsList-put k n es (omega (arith, s)) is h.3,
      )
    ] refl small
  where
    still : (a b : ℕ) → a ≡ 0 → b ≡ 0 → a + b ≡ 0
    still a b x y = omega arith

    other : (k p : Polynomial) → k ≡ p → eq_by_cmp order k p ≡ false → ⊥
    other k p is no' = differ _ (subst (λ x. eq_by_cmp order k x ≡ true) is (itself k)) no'
      where
        differ : (t : Bool) → t ≡ true → t ≡ false → ⊥
        differ t yes' no' = cc

-- the map of a list with one more factor
pub map-put : (k : Polynomial) (n : ℕ) (es : FactorMap) →
    map_of (put k n es) ≡ times_map (map_of es) ((k, n) ∷ [])
map-put k n es =
    same_map (put k n es) (times_map (map_of es) ((k, n) ∷ []))
    (IsCanonical-collect exponent_laws order_total order_anti (map_of es ++ (k, n) ∷ [])) (λ q.
    exponent-put q k n es
    ∙ (λ i. sym (exponent-map_of q es) i + last (cond (eq_by_cmp order q k) n 0) i)
    ∙ sym (exponent-mono_times order_total order_anti q (map_of es) ((k, n) ∷ [])))
  where
    last : (m : ℕ) → m ≡ m + 0
    last m = omega arith

-- all of a list put into another
pub exponent-put_all : (q : Polynomial) (a b : FactorMap) →
    exponent_of q (put_all a b) ≡ exponent_of q a + exponent_of q b
exponent-put_all q a [] = omega arith
exponent-put_all q a (f ∷ b) =
    let put_one = exponent-put q f.0 f.1 a in
    omega (arith, exponent-put_all q (put f.0 f.1 a) b, put_one)

pub map-put_all : (a b : FactorMap) → map_of (put_all a b) ≡ times_map (map_of a) (map_of b)
map-put_all a b =
    same_map (put_all a b) (times_map (map_of a) (map_of b))
    (IsCanonical-collect exponent_laws order_total order_anti (map_of a ++ map_of b)) (λ q.
    omega (
      arith,
      exponent-put_all q a b,
      exponent-map_of q a,
      exponent-map_of q b,
      exponent-mono_times order_total order_anti q (map_of a) (map_of b),
    ))

-- one more factor put in
pub put_all_turn : (a b : FactorMap) (i : ℕ) (x d : Polynomial × ℕ) → i < length b → x ≡ get_or b i d →
    put_all (put x.0 x.1 a) (drop (i + 1) b) ≡ put_all a (drop i b)
put_all_turn a b i x d h e = sym (ap (put_all a) (drop_at b i x d h e))

-- what is left and what is there stay within the limit
pub within_turn : (a b : FactorMap) (i : ℕ) (x d : Polynomial × ℕ) → i < length b → x ≡ get_or b i d →
    ((q : Polynomial) → exponent_of q a + exponent_of q (drop i b) ≤ MAX_POWER) →
    (q : Polynomial) → exponent_of q (put x.0 x.1 a) + exponent_of q (drop (i + 1) b) ≤ MAX_POWER
within_turn a b i x d h e within q =
    let before = within q in
    omega (arith, exponent-put q x.0 x.1 a, ap (exponent_of q) (drop_at b i x d h e), before)

-- and so the one that is put in
pub within_here : (a b : FactorMap) (i : ℕ) (x d : Polynomial × ℕ) → i < length b → x ≡ get_or b i d →
    ((q : Polynomial) → exponent_of q a + exponent_of q (drop i b) ≤ MAX_POWER) → exponent_of x.0 a + x.1 ≤ MAX_POWER
within_here a b i x d h e within =
    let before = within x.0 in
    let rest = exponent_of x.0 (drop (i + 1) b) in
    let from : exponent_of x.0 (drop i b) ≡ x.1 + rest = ap (exponent_of x.0) (drop_at b i x d h e)
    ∙ ap (λ t. cond t x.1 0 + rest) (itself x.0) in
    omega (arith, from, before)

pub IsList-put_all : (a b : FactorMap) → IsList a → IsList b →
    ((q : Polynomial) → exponent_of q a + exponent_of q b ≤ MAX_POWER) → IsList (put_all a b)
IsList-put_all a [] h g within = h
IsList-put_all a (f ∷ b) h g within =
    IsList-put_all (put f.0 f.1 a) b
    (IsList-put f.0 f.1 a (within_here a (f ∷ b) 0 f f (omega arith) refl within) g.2 h) g.3
    (within_turn a (f ∷ b) 0 f f (omega arith) refl within)

-- no exponent is over the limit
pub exponent_small : (q : Polynomial) (es : FactorMap) → IsList es → exponent_of q es ≤ MAX_POWER
exponent_small q [] h = omega arith
exponent_small q (f ∷ es) h =
    elim (eq_by_cmp order q f.0) as (λ t. eq_by_cmp order q f.0 ≡ t → cond t f.1 0 + exponent_of q es ≤ MAX_POWER) [
      | true ↦ λ e.
          let is : q ≡ f.0 = order_anti q f.0 (equal _ (subst T (sym e) tt)) in
          let none : exponent_of q es ≡ 0 = ap (λ p. exponent_of p es) is ∙ h.0 in
          let small = h.1 in
          omega arith
      | false ↦ λ e. let small = exponent_small q es h.3 in omega arith
    ] refl

-- the greater exponents are within the limit
pub common_within : (a b : FactorMap) → IsList a → IsList b → (q : Polynomial) →
    exponent_of q (map_of a) + exponent_of q (lacks (map_of a) (map_of b)) ≤ MAX_POWER
common_within a b h g q =
    let both = exponent-mono_over order_total order_anti q (map_of b) (map_of a)
    (IsCanonical-collect exponent_laws order_total order_anti b) in
    omega (arith, both, exponent-map_of q a, exponent-map_of q b, exponent_small q a h, exponent_small q b g)

-- the limit on the maps is that on the lists
pub times_within : (a b la lb : FactorMap) → map_of la ≡ a → map_of lb ≡ b →
    ((q : Polynomial) → exponent_of q a + exponent_of q b ≤ MAX_POWER) →
    (q : Polynomial) → exponent_of q la + exponent_of q lb ≤ MAX_POWER
times_within a b la lb ea eb within q =
    let whole = within q in
    omega (
      arith,
      exponent-map_of q la,
      exponent-map_of q lb,
      ap (exponent_of q) ea,
      ap (exponent_of q) eb,
      whole,
    )
