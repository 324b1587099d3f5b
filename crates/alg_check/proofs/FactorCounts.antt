-- Lists of factors as maps: their exponents, products and rules.
use Rattle.std.specs.Prelude.{◌≡◌, ℕ, zero, suc, ◌+◌, ◌-◌, ◌*◌, ◌<◌, true, false, cond, List, [], ◌∷◌, ◌++◌, pos, sum_by, length, take, remove}
use Rattle.std.proofs.Common.{get_or, refl, sym, ap, ◌∙◌, arith}
use Rattle.std.proofs.lemmas.List.{take_more}
use Rattle.std.proofs.lemmas.List.Sums.{sum_by-append, sum_by-cons, sum_by-remove}
use Rattle.std.specs.Cmp.{nat_cmp_total}
use Rattle.std.specs.FinMap.{nat_cmp-IsAntisymmetric}
use Rattle.std.specs.Ordering.{nat_cmp, eq_by_cmp}
use Rattle.alg_mono.specs.FiniteMaps.{IsCanonical}
use Rattle.alg_mono.specs.Monomials.{lowered, scaled}
use Rattle.alg_mono.specs.Numbers.{exponents}
use Rattle.alg_mono.specs.NumberedPolynomials.{Polynomial, power_of, product_of}
use Rattle.alg_mono.specs.Outcomes.{has_zero, norm_product, product_outcome}
use Rattle.alg_mono.specs.Polynomials.{IsPoly, poly_degree}
use Rattle.alg_mono.proofs.Canonical.{IsCanonical-collect}
use Rattle.alg_mono.proofs.Lcm.{exponent-mono_over}
use Rattle.alg_mono.proofs.Monomials.{exponent-mono_times}
use Rattle.alg_mono.proofs.Numbers.{exponent_laws}
use Rattle.alg_meaning.specs.FractionRules.{all_factors, over_outcome, below_outcome}
use Rattle.alg_reify.specs.FactorMaps.{FactorMap, order, exponent_of, times_map, power_map, lacks, product}
use Rattle.alg_reify.specs.Preparing.{times_each}
use Rattle.alg_reify.proofs.FactorLists.{exponent-map_of, same_map, differs, norms-map_of, degrees-map_of, zero-map_of, product-map_of, over-map_of, below-map_of}
use Rattle.alg_reify.proofs.FactorMeasures.{AreLike, both_like, same_rule}
use Rattle.alg_reify.proofs.Coefficients.{only_equal}
use Rattle.alg_reify.proofs.FactorOrder.{order_total, order_anti}
use Rattle.alg_reify.proofs.FactorProducts.{product_sum, times_one}
use Rattle.alg_reify.proofs.RenamedMaps.{exponent-scaled}
use Rattle.alg_check.specs.Factors.{once, as_map, times_in, repeated}

-- ---- exponents
times_in-cons : (q p : Polynomial) (ps : List Polynomial) →
    times_in q (p ∷ ps) ≡ cond (eq_by_cmp order q p) 1 0 + times_in q ps
times_in-cons q p ps = sum_by-cons (λ (r : Polynomial). cond (eq_by_cmp order q r) 1 0) p ps

pub times_in-append : (q : Polynomial) (ps qs : List Polynomial) →
    times_in q (ps ++ qs) ≡ times_in q ps + times_in q qs
times_in-append q ps qs = sum_by-append (λ (r : Polynomial). cond (eq_by_cmp order q r) 1 0) ps qs

exponent-once : (q : Polynomial) (ps : List Polynomial) → exponent_of q (once ps) ≡ times_in q ps
exponent-once q [] = refl
exponent-once q (p ∷ ps) =
    ap (λ n. cond (eq_by_cmp order q p) 1 0 + n) (exponent-once q ps) ∙ sym (times_in-cons q p ps)

exponent-as_map : (q : Polynomial) (ps : List Polynomial) → exponent_of q (as_map ps) ≡ times_in q ps
exponent-as_map q ps = exponent-map_of q (once ps) ∙ exponent-once q ps

-- the map of a list that has these numbers of places
map_is : (ps : List Polynomial) (m : FactorMap) → IsCanonical order exponents m →
    ((q : Polynomial) → times_in q ps ≡ exponent_of q m) → as_map ps ≡ m
map_is ps m canonical same = same_map (once ps) m canonical (λ q. exponent-once q ps ∙ same q)

-- two lists joined
pub times_is : (a b : List Polynomial) → as_map (a ++ b) ≡ times_map (as_map a) (as_map b)
times_is a b =
    map_is (a ++ b) (times_map (as_map a) (as_map b))
    (IsCanonical-collect exponent_laws order_total order_anti (as_map a ++ as_map b)) (λ q.
    times_in-append q a b
    ∙ (λ i. sym (exponent-as_map q a) i + sym (exponent-as_map q b) i)
    ∙ sym (exponent-mono_times order_total order_anti q (as_map a) (as_map b)))

-- what one lacks of another
pub lacks_is : (a b v : List Polynomial) → ((q : Polynomial) → times_in q v ≡ times_in q b - times_in q a) →
    as_map v ≡ lacks (as_map a) (as_map b)
lacks_is a b v less =
    map_is v (lacks (as_map a) (as_map b))
    (IsCanonical-collect exponent_laws order_total order_anti (lowered order (as_map a) (as_map b))) (λ q.
    less q
    ∙ (λ i. sym (exponent-as_map q b) i - sym (exponent-as_map q a) i)
    ∙ sym (exponent-mono_over order_total order_anti q (as_map b) (as_map a)
    (IsCanonical-collect exponent_laws order_total order_anti (once b))))

-- a list so many times
times_in-repeated : (q : Polynomial) (n : ℕ) (ps : List Polynomial) → times_in q (repeated n ps) ≡ times_in q ps * n
times_in-repeated q zero ps = none (times_in q ps)
  where
    none : (n : ℕ) → 0 ≡ n * zero
    none n = omega arith
times_in-repeated q (suc n) ps =
    let rest = times_in-repeated q n ps in omega (arith, times_in-append q (repeated n ps) ps, rest)

pub power_is : (n : ℕ) (a : List Polynomial) → as_map (repeated n a) ≡ power_map (as_map a) n
power_is n a =
    map_is (repeated n a) (power_map (as_map a) n)
    (IsCanonical-collect exponent_laws order_total order_anti (scaled n (as_map a))) (λ q.
    times_in-repeated q n a ∙ ap (λ k. k * n) (sym (exponent-as_map q a))
    ∙ sym (exponent-map_of q (scaled n (as_map a)) ∙ exponent-scaled order q n (as_map a)))

-- one factor
pub one_is : (p : Polynomial) → IsPoly nat_cmp p → as_map (p ∷ []) ≡ (p, 1) ∷ []
one_is p h = refl

-- ---- rules
all-once : (ps : List Polynomial) → all_factors (once ps) ≡ ps
all-once [] = refl
all-once (p ∷ ps) = ap (λ r. p ∷ r) (all-once ps)

pub over_is : (p : Polynomial) (qs : List Polynomial) → over_outcome p (as_map qs) ≡ product_outcome (p ∷ qs)
over_is p qs = over-map_of p (once qs) ∙ ap (λ ps. product_outcome (p ∷ ps)) (all-once qs)

pub below_is : (qs : List Polynomial) → below_outcome (as_map qs) ≡ product_outcome qs
below_is qs = below-map_of (once qs) ∙ ap product_outcome (all-once qs)

-- ---- products
abbrev one : Polynomial
one = ([], pos 1) ∷ []

-- times each in turn, where 1 changes nothing
each_in_turn : (p : Polynomial) (qs : List Polynomial) → product_of p one ≡ p →
    product_of p (product (once qs)) ≡ times_each p qs
each_in_turn p [] same = same
each_in_turn p (q ∷ qs) same =
    let ring = product_sum nat_cmp_total nat_cmp-IsAntisymmetric in
    let unit : product_of (product_of p q) one ≡ product_of p q =
    ring.comm (product_of p q) one ∙ ring.at_plus p q in
    sym (ring.assoc p (power_of q 1) (product (once qs)))
    ∙ ap (λ r. product_of r (product (once qs))) (sym (ring.assoc p q one) ∙ unit)
    ∙ each_in_turn (product_of p q) qs unit

pub product_is : (p : Polynomial) (qs : List Polynomial) → IsPoly nat_cmp p →
    product_of p (product (as_map qs)) ≡ times_each p qs
product_is p qs h =
    ap (product_of p) (product-map_of (once qs))
    ∙ each_in_turn p qs (times_one nat_cmp_total nat_cmp-IsAntisymmetric p h.polynomial)

-- one more factor at the end
pub times_each-append : (p q : Polynomial) (qs : List Polynomial) →
    times_each p (qs ++ q ∷ []) ≡ product_of (times_each p qs) q
times_each-append p q [] = refl
times_each-append p q (r ∷ qs) = times_each-append (product_of p r) q qs

-- ---- a factor is taken away
module _ (ps : List Polynomial) (i : ℕ) (x p : Polynomial) (there : i < length ps) (is : x ≡ get_or ps i x) where
  -- it was found
  pub taken : x ≡ p → (q : Polynomial) → times_in q (remove ps i) ≡ times_in q ps - cond (eq_by_cmp order q p) 1 0
  taken same q =
      let whole = sum_by-remove (λ (r : Polynomial). cond (eq_by_cmp order q r) 1 0) ps i x there in
      let here : get_or ps i x ≡ p = sym is ∙ same in
      omega (arith, whole, ap (λ (r : Polynomial). cond {A = ℕ} (eq_by_cmp order q r) 1 0) here)

  -- it is another one
  pub looked_at : (x ≡ p → ⊥) → times_in p (take i ps) ≡ 0 → times_in p (take (i + 1) ps) ≡ 0
  looked_at other none =
      let front : take (i + 1) ps ≡ take i ps ++ x ∷ [] =
      take_more ps i x there ∙ (λ j. take i ps ++ sym is j ∷ []) in
      ap (times_in p) front ∙ times_in-append p (take i ps) (x ∷ [])
      ∙ (λ j. none j + (times_in-cons p x [] ∙ ap (λ b. cond b 1 0 + 0) (differs p x other)) j)

-- it is nowhere
pub not_taken : (p : Polynomial) (ps : List Polynomial) → times_in p ps ≡ 0 → (q : Polynomial) →
    times_in q ps ≡ times_in q ps - cond (eq_by_cmp order q p) 1 0
not_taken p ps none q =
    elim (eq_by_cmp order q p) as (λ b. eq_by_cmp order q p ≡ b → times_in q ps ≡ times_in q ps - cond b 1 0) [
      | true ↦ λ e.
          let is : times_in q ps ≡ 0 = ap (λ r. times_in r ps) (only_equal order_anti q p e) ∙ none in
          omega (arith, is)
      | false ↦ λ e. omega arith
    ] refl

-- ---- what is left after each of a list was taken away
pub nothing_less : (q : Polynomial) (ps other : List Polynomial) → ps ≡ other →
    times_in q ps ≡ times_in q other - times_in q []
nothing_less q ps other same = let n = ap (times_in q) same in omega (arith, n)

pub one_less : (q x : Polynomial) (own other before after : List Polynomial) (i : ℕ) → i < length own →
    x ≡ get_or own i x → times_in q before ≡ times_in q other - times_in q (take i own) →
    times_in q after ≡ times_in q before - cond (eq_by_cmp order q x) 1 0 →
    times_in q after ≡ times_in q other - times_in q (take (i + 1) own)
one_less q x own other before after i there is rest less =
    let front : take (i + 1) own ≡ take i own ++ x ∷ [] =
    take_more own i x there ∙ (λ j. take i own ++ sym is j ∷ []) in
    omega (
      arith,
      less,
      rest,
      ap (times_in q) front,
      times_in-append q (take i own) (x ∷ []),
      times_in-cons q x [],
    )

-- ---- what the code lists
pub lacks_from : (a b x y v w : List Polynomial) → x ≡ a → y ≡ b → w ≡ v →
    ((q : Polynomial) → times_in q v ≡ times_in q y - times_in q x) → as_map w ≡ lacks (as_map a) (as_map b)
lacks_from a b x y v w first second all less =
    ap as_map all ∙ lacks_is x y v less ∙ (λ i. lacks (as_map (first i)) (as_map (second i)))

pub repeated_more : (n : ℕ) (ps : List Polynomial) → repeated (n + 1) ps ≡ repeated n ps ++ ps
repeated_more n ps = ap (λ k. repeated k ps) (next n)
  where
    next : (n : ℕ) → n + 1 ≡ suc n
    next n = omega arith

-- ---- a factor 1 or -1 of the numerator
itself_like : (ps : List Polynomial) → AreLike ps ps
itself_like ps = record { norm = refl; degree = refl; nothing = refl }

like_map : (ps : List Polynomial) → AreLike (all_factors (as_map ps)) ps
like_map ps = record {
  norm = norms-map_of (once ps) ∙ ap norm_product (all-once ps);
  degree = degrees-map_of (once ps) ∙ ap (λ (l : List Polynomial). sum_by poly_degree l) (all-once ps);
  nothing = zero-map_of (once ps) ∙ ap (λ (l : List Polynomial). has_zero l) (all-once ps);
}

pub last_rule : (p u : Polynomial) (ps : List Polynomial) →
    over_outcome p (as_map (ps ++ u ∷ [])) ≡ product_outcome (p ∷ (all_factors (as_map ps) ++ u ∷ []))
last_rule p u ps =
    let all = all_factors (as_map ps) in
    let tail = both_like all (u ∷ []) ps (u ∷ []) (like_map ps) (itself_like (u ∷ [])) in
    let whole = both_like (p ∷ []) (all ++ u ∷ []) (p ∷ []) (ps ++ u ∷ []) (itself_like (p ∷ [])) tail in
    over_is p (ps ++ u ∷ []) ∙ sym (same_rule (p ∷ (all ++ u ∷ [])) (p ∷ (ps ++ u ∷ [])) whole)

pub last_product : (p u : Polynomial) (ps : List Polynomial) → IsPoly nat_cmp p →
    product_of p (product (as_map (ps ++ u ∷ []))) ≡ product_of (product_of p (product (as_map ps))) u
last_product p u ps h =
    product_is p (ps ++ u ∷ []) h ∙ times_each-append p u ps
    ∙ ap (λ r. product_of r u) (sym (product_is p ps h))
