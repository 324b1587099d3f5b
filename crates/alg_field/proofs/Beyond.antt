-- What one list of factors has beyond another.
use Rattle.std.specs.Prelude.{◌≡◌, Bool, ℕ, ◌+◌, ◌-◌, ◌<◌, ◌≤◌, true, false, cond, [], ◌∷◌, ◌++◌, length, drop}
use Rattle.std.proofs.lemmas.Bool.Decides.{nat_tests}
use Rattle.std.proofs.Common.{get_or, refl, sym, ap, subst, ◌∙◌, T, arith, append_assoc}
use Rattle.std.specs.Ordering.{eq_by_cmp}
use Rattle.alg_mono.specs.FiniteMaps.{keep}
use Rattle.alg_mono.specs.Numbers.{exponents}
use Rattle.alg_mono.specs.NumberedPolynomials.{Polynomial}
use Rattle.alg_mono.specs.Monomials.{lowered}
use Rattle.alg_mono.proofs.Numbers.{exponent_laws}
use Rattle.alg_mono.proofs.Canonical.{IsCanonical-collect, equal}
use Rattle.alg_mono.proofs.Lcm.{exponent-mono_over}
use Rattle.alg_mono.proofs.Merges.{keep_front}
use Rattle.alg_mono.proofs.MergeTurns.{drop_at}
use Rattle.alg_reify.specs.FactorMaps.{FactorMap, order, exponent_of, lacks, map_of}
use Rattle.alg_field.specs.Lists.{IsList, IsFactor, MAX_POWER, beyond}
use Rattle.alg_reify.proofs.FactorOrder.{order_total, order_anti}
use Rattle.alg_reify.proofs.FactorLists.{exponent-map_of, same_map}

exponent-keep : (q k : Polynomial) (n : ℕ) (es : FactorMap) →
    exponent_of q (keep order exponents k n es) ≡ cond (eq_by_cmp order q k) n 0 + exponent_of q es
exponent-keep q k n es =
    elim (exponents.is_none n) as (λ b. exponents.is_none n ≡ b →
    exponent_of q (cond b es ((k, n) ∷ es)) ≡ cond (eq_by_cmp order q k) n 0 + exponent_of q es) [
      | true ↦ λ e. none_adds (eq_by_cmp order q k) n _ (exponent_laws.is_none_only n e)
      | false ↦ λ e. refl
    ] refl
  where
    none_adds : (b : Bool) (n m : ℕ) → n ≡ 0 → m ≡ cond b n 0 + m
    none_adds true n m z = omega arith
    none_adds false n m z = omega arith

pub exponent-beyond : (q : Polynomial) (a b : FactorMap) → IsList b →
    exponent_of q (beyond a b) ≡ exponent_of q b - exponent_of q a
exponent-beyond q a [] h = omega arith
exponent-beyond q a (f ∷ b) h =
    exponent-keep q f.0 (f.1 - exponent_of f.0 a) (beyond a b)
    ∙ elim (eq_by_cmp order q f.0) as (λ t. eq_by_cmp order q f.0 ≡ t →
    cond t (f.1 - exponent_of f.0 a) 0 + exponent_of q (beyond a b)
    ≡ (cond t f.1 0 + exponent_of q b) - exponent_of q a) [
      | true ↦ λ e.
          let is : q ≡ f.0 = order_anti q f.0 (equal _ (subst T (sym e) tt)) in
          here f.1 (exponent_of f.0 a) (exponent_of q a) (exponent_of q (beyond a b)) (exponent_of q b)
          (ap (λ p. exponent_of p a) is) (ap (λ p. exponent_of p b) is ∙ h.0) (exponent-beyond q a b h.3)
      | false ↦ λ e. beside (exponent_of q (beyond a b)) (exponent_of q b) (exponent_of q a)
          (exponent-beyond q a b h.3)
    ] refl
  where
    here : (n y x l s : ℕ) → x ≡ y → s ≡ 0 → l ≡ s - x → (n - y) + l ≡ (n + s) - x
    here n y x l s e z i = omega arith

    beside : (l s x : ℕ) → l ≡ s - x → 0 + l ≡ (0 + s) - x
    beside l s x i = omega arith

IsList-keep : (k : Polynomial) (n : ℕ) (es : FactorMap) → exponent_of k es ≡ 0 → n ≤ MAX_POWER → IsFactor k →
    IsList es →
    IsList (keep order exponents k n es)
IsList-keep k n es apart small is h =
    elim (exponents.is_none n) as (λ b. IsList (cond b es ((k, n) ∷ es))) [ true ↦ h | false ↦ (apart, small, is, h) ]

pub IsList-beyond : (a b : FactorMap) → IsList b → IsList (beyond a b)
IsList-beyond a [] h = tt
IsList-beyond a (f ∷ b) h =
    let some = exponent-beyond f.0 a b h.3 in
    let none = h.0 in
    let small = h.1 in
    IsList-keep f.0 (f.1 - exponent_of f.0 a) (beyond a b) (omega arith) (omega arith) h.2 (IsList-beyond a b h.3)

-- the map of what one list has beyond another
pub map-beyond : (a b : FactorMap) → IsList b → map_of (beyond a b) ≡ lacks (map_of a) (map_of b)
map-beyond a b h =
    same_map (beyond a b) (lacks (map_of a) (map_of b))
    (IsCanonical-collect exponent_laws order_total order_anti (lowered order (map_of a) (map_of b))) (λ q.
    let both = exponent-mono_over order_total order_anti q (map_of b) (map_of a)
    (IsCanonical-collect exponent_laws order_total order_anti b) in
    omega (arith, exponent-beyond q a b h, both, exponent-map_of q a, exponent-map_of q b))

-- one more factor
pub beyond_turn : (a b out : FactorMap) (i : ℕ) (x d : Polynomial × ℕ) → i < length b → x ≡ get_or b i d →
    (out ++ keep order exponents x.0 (x.1 - exponent_of x.0 a) []) ++ beyond a (drop (i + 1) b) ≡
    out ++ beyond a (drop i b)
beyond_turn a b out i x d h e =
    let left = x.1 - exponent_of x.0 a in
    append_assoc out (keep order exponents x.0 left []) (beyond a (drop (i + 1) b))
    ∙ ap (λ r. out ++ r)
    (keep_front order exponents x.0 left (beyond a (drop (i + 1) b)) ∙ sym (ap (beyond a) (drop_at b i x d h e)))

pub keep_some : (k : Polynomial) (n : ℕ) (es : FactorMap) → 0 < n → keep order exponents k n es ≡ (k, n) ∷ es
keep_some k n es h = grind (arith, nat_tests)

pub keep_none : (k : Polynomial) (n : ℕ) → n ≡ 0 → keep order exponents k n [] ≡ []
keep_none k n h = grind (arith, nat_tests)
