-- Lists of factors with each exponent n times.
use Rattle.std.specs.Prelude.{◌≡◌, ℕ, zero, suc, ◌+◌, ◌*◌, ◌<◌, ◌≤◌, true, cond, [], ◌∷◌, length, slice_set}
use Rattle.std.proofs.Common.{get_or, refl, sym, ap, ◌∙◌, arith}
use Rattle.std.proofs.lemmas.Nat.{mul-le}
use Rattle.std.specs.Ordering.{eq_by_cmp}
use Rattle.alg_mono.specs.Monomials.{scaled}
use Rattle.alg_mono.specs.NumberedPolynomials.{Polynomial}
use Rattle.alg_mono.proofs.Canonical.{IsCanonical-collect}
use Rattle.alg_mono.proofs.Numbers.{exponent_laws}
use Rattle.alg_reify.proofs.RenamedMaps.{exponent-scaled}
use Rattle.alg_reify.specs.FactorMaps.{FactorMap, order, exponent_of, power_map, map_of}
use Rattle.alg_field.specs.Lists.{IsList, MAX_POWER}
use Rattle.alg_reify.proofs.FactorOrder.{order_total, order_anti}
use Rattle.alg_reify.proofs.FactorLists.{exponent-map_of, same_map, itself}

-- the first i exponents n times
abbrev pub scaled_to : ℕ → ℕ → FactorMap → FactorMap
scaled_to n zero es = es
scaled_to n (suc i) [] = []
scaled_to n (suc i) (e ∷ es) = (e.0, e.1 * n) ∷ scaled_to n i es

pub scaled_at : (n i : ℕ) (es : FactorMap) (d : Polynomial × ℕ) → get_or (scaled_to n i es) i d ≡ get_or es i d
scaled_at n zero es d = refl
scaled_at n (suc i) [] d = refl
scaled_at n (suc i) (e ∷ es) d = scaled_at n i es d

pub scaled_next : (n i : ℕ) (es : FactorMap) (x : Polynomial × ℕ) → i < length es → x ≡ get_or es i x →
    slice_set (scaled_to n i es) i (x.0, x.1 * n) ≡ scaled_to n (suc i) es
scaled_next n i [] x h is = absurd (omega arith)
scaled_next n zero (e ∷ es) x h is = λ i. ((is i).0, (is i).1 * n) ∷ es
scaled_next n (suc i) (e ∷ es) x h is = ap (λ r. (e.0, e.1 * n) ∷ r) (scaled_next n i es x (omega arith) is)

pub scaled_all : (n i : ℕ) (es : FactorMap) → length es ≤ i → scaled_to n i es ≡ scaled n es
scaled_all n zero [] h = refl
scaled_all n (suc i) [] h = refl
scaled_all n zero (e ∷ es) h = absurd (omega arith)
scaled_all n (suc i) (e ∷ es) h = ap (λ r. (e.0, e.1 * n) ∷ r) (scaled_all n i es (omega arith))

pub length-scaled_to : (n i : ℕ) (es : FactorMap) → length (scaled_to n i es) ≡ length es
length-scaled_to n zero es = refl
length-scaled_to n (suc i) [] = refl
length-scaled_to n (suc i) (e ∷ es) = ap suc (length-scaled_to n i es)

-- an exponent of the list is at most that of its factor
at_most : (es : FactorMap) (i : ℕ) (x : Polynomial × ℕ) → i < length es → x ≡ get_or es i x → x.1 ≤ exponent_of x.0 es
at_most [] i x h is = absurd (omega arith)
at_most (e ∷ es) zero x h is =
    let here : eq_by_cmp order x.0 e.0 ≡ true =
    ap (λ p. eq_by_cmp order x.0 p) (sym (λ i. (is i).0)) ∙ itself x.0 in
    let size : x.1 ≡ e.1 = λ i. (is i).1 in
    omega (arith, ap (λ t. cond t e.1 0 + exponent_of x.0 es) here, size)
at_most (e ∷ es) (suc i) x h is = let rest = at_most es i x (omega arith) is in omega (arith, rest)

pub scaled_small : (n i : ℕ) (es : FactorMap) (x : Polynomial × ℕ) → i < length es → x ≡ get_or es i x →
    ((q : Polynomial) → exponent_of q es * n ≤ MAX_POWER) → x.1 * n ≤ MAX_POWER
scaled_small n i es x h is within =
    let more = mul-le x.1 n (exponent_of x.0 es) n (at_most es i x h is) (omega arith) in
    let all = within x.0 in
    omega (arith, more, all)

-- the map of the scaled list is the power of the list's map
pub map-scaled : (n : ℕ) (es : FactorMap) → map_of (scaled n es) ≡ power_map (map_of es) n
map-scaled n es =
    same_map (scaled n es) (power_map (map_of es) n)
    (IsCanonical-collect exponent_laws order_total order_anti (scaled n (map_of es))) (λ q.
    exponent-scaled order q n es ∙ ap (λ x. x * n) (sym (exponent-map_of q es))
    ∙ sym (exponent-map_of q (scaled n (map_of es)) ∙ exponent-scaled order q n (map_of es)))

-- and the scaled list is a list
pub IsList-scaled : (n : ℕ) (es : FactorMap) → ((q : Polynomial) → exponent_of q es * n ≤ MAX_POWER) → IsList es →
    IsList (scaled n es)
IsList-scaled n [] within h = tt
IsList-scaled n (e ∷ es) within h = (
  let none = h.0 in omega (arith, exponent-scaled order e.0 n es, ap (λ x. x * n) none),
  scaled_small n 0 (e ∷ es) e (omega arith) refl within,
  h.2,
  IsList-scaled n es (λ q. let all = within q in omega (arith, all, below q)) h.3,
)
  where
    below : (q : Polynomial) → exponent_of q es * n ≤ exponent_of q (e ∷ es) * n
    below q = mul-le (exponent_of q es) n (exponent_of q (e ∷ es)) n (omega arith) (omega arith)
