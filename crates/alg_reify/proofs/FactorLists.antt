-- What lists of factors say of the maps that they are.
use Rattle.std.specs.Prelude.{◌≡◌, ◌≢◌, ◌+◌, ◌*◌, true, false, ◌||◌, cond}
use Rattle.std.proofs.Common.{refl, sym, ap, subst, ◌∙◌, T}
use Rattle.std.proofs.lemmas.List.Sums.{sum_by-cons}
use Rattle.std.specs.Ordering.{is_eq, eq_by_cmp}
use Rattle.std.specs.Cmp.{nat_cmp_total, tied_itself}
use Rattle.std.specs.FinMap.{nat_cmp-IsAntisymmetric}
use Rattle.alg_mono.specs.FiniteMaps.{IsCanonical}
use Rattle.alg_mono.specs.Numbers.{exponents}
use Rattle.alg_mono.specs.NumberedPolynomials.{Polynomial}
use Rattle.alg_mono.specs.Outcomes.{Outcome, outcome, has_zero, is_nothing}
use Rattle.alg_mono.specs.Polynomials.{norm, poly_degree}
use Rattle.alg_mono.proofs.Canonical.{same_canonical, amount-collect, IsCanonical-collect, equal}
use Rattle.alg_mono.proofs.Numbers.{exponent_laws, natural_sum}
use Rattle.alg_mono.proofs.Totals.{IsSum, total-collect}
use Rattle.alg_meaning.specs.FractionRules.{all_factors, over_outcome, below_outcome}
use Rattle.alg_reify.specs.FactorMaps.{FactorMap, order, exponent_of, map_of, norms, degrees, product}
use Rattle.alg_reify.proofs.FactorMeasures.{many_adds, measure, measure-all, norm_sum, either_sum, norm_measure, zero_measure, degree_measure}
use Rattle.alg_reify.proofs.FactorOrder.{order_total, order_anti}
use Rattle.alg_reify.proofs.FactorProducts.{product-collect}

-- a factor's exponent in the map is the sum of those in the list
pub exponent-map_of : (q : Polynomial) (es : FactorMap) → exponent_of q (map_of es) ≡ exponent_of q es
exponent-map_of q es = amount-collect exponent_laws order_total order_anti q es

-- lists with the same exponents are one map
pub same_map : (es : FactorMap) (m : FactorMap) → IsCanonical order exponents m →
    ((q : Polynomial) → exponent_of q es ≡ exponent_of q m) → map_of es ≡ m
same_map es m c same =
    same_canonical exponent_laws order_total order_anti (map_of es) m
    (IsCanonical-collect exponent_laws order_total order_anti es) c (λ q. exponent-map_of q es ∙ same q)

pub itself : (q : Polynomial) → eq_by_cmp order q q ≡ true
itself q = ap is_eq (tied_itself order_total q)

-- another factor
pub differs : (q p : Polynomial) → p ≢ q → eq_by_cmp order q p ≡ false
differs q p no' =
    elim (eq_by_cmp order q p) as (λ b. eq_by_cmp order q p ≡ b → b ≡ false) [
      | true ↦ λ e. absurd (no' (sym (order_anti q p (equal _ (subst T (sym e) tt)))))
      | false ↦ λ e. refl
    ] refl

-- the map of a list
measure-map : {B : Type 0} {none : B} {plus : B → B → B} (S : IsSum none plus) (h : Polynomial → B) (m : FactorMap) →
    measure S h (all_factors (map_of m)) ≡ measure S h (all_factors m)
measure-map S h m =
    measure-all S h (map_of m) ∙ total-collect exponent_laws order_anti S (many_adds S h) m ∙ sym (measure-all S h m)

pub norms-map_of : (m : FactorMap) → norms (map_of m) ≡ norms m
norms-map_of m =
    norm_measure (all_factors (map_of m)) ∙ measure-map norm_sum (λ p. norm p) m ∙ sym (norm_measure (all_factors m))

pub degrees-map_of : (m : FactorMap) → degrees (map_of m) ≡ degrees m
degrees-map_of m =
    degree_measure (all_factors (map_of m)) ∙ measure-map natural_sum (λ p. poly_degree p) m
    ∙ sym (degree_measure (all_factors m))

pub zero-map_of : (m : FactorMap) → has_zero (all_factors (map_of m)) ≡ has_zero (all_factors m)
zero-map_of m =
    zero_measure (all_factors (map_of m)) ∙ measure-map either_sum (λ p. is_nothing p) m
    ∙ sym (zero_measure (all_factors m))

-- the product of a map is that of its list
pub product-map_of : (m : FactorMap) → product (map_of m) ≡ product m
product-map_of m = product-collect nat_cmp_total nat_cmp-IsAntisymmetric m

-- a polynomial times the factors of a map breaks the rule that it breaks with its list
pub over-map_of : (p : Polynomial) (m : FactorMap) → over_outcome p (map_of m) ≡ over_outcome p m
over-map_of p m =
    let low = sum_by-cons (λ (q : Polynomial). poly_degree q) p (all_factors (map_of m))
    ∙ ap (λ d. poly_degree p + d) (degrees-map_of m)
    ∙ sym (sum_by-cons (λ (q : Polynomial). poly_degree q) p (all_factors m)) in
    λ i. cond (is_nothing p || zero-map_of m i) Outcome.Fine (outcome (norm p * norms-map_of m i) (low i))

-- and so does the product of a map's factors
pub below-map_of : (m : FactorMap) → below_outcome (map_of m) ≡ below_outcome m
below-map_of m = λ i. cond (zero-map_of m i) Outcome.Fine (outcome (norms-map_of m i) (degrees-map_of m i))
