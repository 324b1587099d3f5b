-- Maps of factors by their lists: their products, and which rules they break.
use Rattle.std.specs.Prelude.{◌≡◌, ℕ, ◌+◌, ◌*◌, ◌^◌, ◌≤◌, [], ◌∷◌, ◌++◌}
use Rattle.std.proofs.Common.{sym, ap, ◌∙◌, arith, append-nil}
use Rattle.alg_mono.specs.FiniteMaps.{Each, IsCanonical, collect}
use Rattle.alg_mono.proofs.Canonical.{collect-canonical}
use Rattle.alg_mono.specs.Monomials.{scaled}
use Rattle.alg_mono.specs.NumberedPolynomials.{Polynomial}
use Rattle.alg_mono.specs.Numbers.{exponents}
use Rattle.alg_mono.specs.Outcomes.{Outcome, outcome}
use Rattle.alg_mono.proofs.Numbers.{exponent_laws}
use Rattle.alg_mono.proofs.Each.{Each-append, Each-collect}
use Rattle.alg_mono.proofs.Lcm.{Each-scaled}
use Rattle.alg_mono.proofs.Outcomes.{says_at}
use Rattle.alg_meaning.specs.FractionRules.{below_outcome}
use Rattle.alg_reify.proofs.RenamedMaps.{exponent-scaled}
use Rattle.alg_reify.specs.FactorMaps.{FactorMap, order, exponent_of, times_map, power_map, map_of, norms, degrees}
use Rattle.alg_field.specs.Lists.{IsFactor, IsList, MAX_POWER}
use Rattle.alg_field.proofs.Measures.{each_factor, each_some, norms-append, degrees-append, norms-scaled, degrees-scaled, below_is}
use Rattle.alg_reify.proofs.FactorLists.{norms-map_of, degrees-map_of}
use Rattle.alg_reify.proofs.FactorOrder.{order_total, order_anti}
use Rattle.alg_field.proofs.Within.{exponent_within}

each_map : (m : FactorMap) → Each IsFactor m → Each IsFactor (map_of m)
each_map m h = Each-collect order exponents IsFactor m h

-- the factors of two maps
pub below-times : (a b : FactorMap) → IsList a → IsList b →
    below_outcome (times_map (map_of a) (map_of b)) ≡ outcome (norms a * norms b) (degrees a + degrees b)
below-times a b h g =
    let both = map_of a ++ map_of b in
    let each = each_map both (Each-append IsFactor (map_of a) (map_of b) (each_map a (each_factor a h))
    (each_map b (each_factor b g))) in
    let light = norms-map_of both ∙ norms-append (map_of a) (map_of b) ∙ (λ i. norms-map_of a i * norms-map_of b i) in
    let low = degrees-map_of both ∙ degrees-append (map_of a) (map_of b)
    ∙ (λ i. degrees-map_of a i + degrees-map_of b i) in
    below_is (map_of both) (each_some (map_of both) each) ∙ (λ i. outcome (light i) (low i))

-- the power of a map
pub below-power : (n : ℕ) (a : FactorMap) → IsList a →
    below_outcome (power_map (map_of a) n) ≡ outcome (norms a ^ n) (n * degrees a)
below-power n a h =
    let many = scaled n (map_of a) in
    let each = each_map many (Each-scaled IsFactor n (map_of a) (each_map a (each_factor a h))) in
    let light = norms-map_of many ∙ norms-scaled n (map_of a) ∙ ap (λ x. x ^ n) (norms-map_of a) in
    let low = degrees-map_of many ∙ degrees-scaled n (map_of a) ∙ ap (λ x. n * x) (degrees-map_of a) in
    below_is (map_of many) (each_some (map_of many) each) ∙ (λ i. outcome (light i) (low i))

exponent-append : (q : Polynomial) (a b : FactorMap) → exponent_of q (a ++ b) ≡ exponent_of q a + exponent_of q b
exponent-append q [] b = omega arith
exponent-append q (e ∷ a) b = let rest = exponent-append q a b in omega (arith, rest)

-- where they are fine, no exponent is over its limit
pub times_within : (a b : FactorMap) → IsList a → IsList b →
    below_outcome (times_map (map_of a) (map_of b)) ≡ Outcome.Fine → (q : Polynomial) →
    exponent_of q a + exponent_of q b ≤ MAX_POWER
times_within a b h g fine q =
    let kept = says_at (norms a * norms b) (degrees a + degrees b) Outcome.Fine (sym (below-times a b h g) ∙ fine) in
    let light = kept.0 in
    let low = kept.1 in
    let within = exponent_within q (a ++ b) (Each-append IsFactor a b (each_factor a h) (each_factor b g))
    (omega (arith, norms-append a b, light)) (omega (arith, degrees-append a b, low)) in
    omega (arith, exponent-append q a b, within)

pub power_within : (n : ℕ) (a : FactorMap) → IsList a → below_outcome (power_map (map_of a) n) ≡ Outcome.Fine →
    (q : Polynomial) → exponent_of q a * n ≤ MAX_POWER
power_within n a h fine q =
    let kept = says_at (norms a ^ n) (n * degrees a) Outcome.Fine (sym (below-power n a h) ∙ fine) in
    let light = kept.0 in
    let low = kept.1 in
    let within = exponent_within q (scaled n a) (Each-scaled IsFactor n a (each_factor a h))
    (omega (arith, norms-scaled n a, light)) (omega (arith, degrees-scaled n a, low)) in
    omega (arith, exponent-scaled order q n a, within)

-- no more factors
pub times_none : (m : FactorMap) → IsCanonical order exponents m → times_map m [] ≡ m
times_none m h =
    ap (λ es. collect order exponents es) (append-nil m) ∙ collect-canonical exponent_laws order_total order_anti m h
