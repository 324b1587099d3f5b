use Rattle.std.specs.Prelude.{◌≡◌, Bool, true, false, cond, List, [], ◌∷◌, ◌++◌}
use Rattle.std.proofs.Common.{◌∙◌, sym, ap, subst, append-nil}
use Rattle.std.specs.Ordering.{nat_cmp}
use Rattle.alg_mono.specs.NumberedPolynomials.{Polynomial, product_of}
use Rattle.alg_mono.specs.Outcomes.{Outcome, product_outcome}
use Rattle.alg_meaning.specs.FractionRules.{worse, all_factors, over_outcome, below_outcome}
use Rattle.alg_meaning.specs.FractionsOver.{is_unit, frac_quotient}
use Rattle.alg_reify.specs.FactorMaps.{FactorMap, product, times_map}
use Rattle.alg_reify.specs.Making.{Gives}
use Rattle.alg_reify.proofs.Giving.{subst_both}
use Rattle.alg_check.specs.Factors.{as_map, fraction_of}
use Rattle.alg_check.proofs.FactorCounts.{last_product, last_rule, times_is}
use Rattle.alg_check.proofs.fractions.FractionFractionForm.quotient.Goals as goal

-- by 1 or -1: the factors stay
pub returns-then-is_unit : goal.returns-then-is_unit
returns-then-is_unit c =
    let a = c.args.self in
    let b = c.args.other in
    let bs = b.below.items in
    let unit : is_unit nat_cmp b.top ≡ true = sym c.is_unit.ensures ∙ c.if-is_unit.true in
    let pushed : c.deref.result.now ≡ bs ++ b.top ∷ [] = c.deref.ensures.value ∙ c.in_ok-push.ensures.items in
    let top = ap (λ l. product_of a.top (product (as_map l))) pushed
    ∙ last_product a.top b.top bs c.terms.ensures.sound in
    let rule = ap (λ l. over_outcome a.top (as_map l)) pushed ∙ last_rule a.top b.top bs in
    let P : FactorMap → Polynomial → Outcome → Type 0 = λ m p o. Gives fraction_of (record { top = p; below = m })
    (worse o (below_outcome m)) c.over_both.result in
    let none = as_map (a.below.items ++ []) in
    let Q : Bool → Type 0 = λ u. let q = frac_quotient nat_cmp u (fraction_of a) (fraction_of b) in
    Gives fraction_of q (worse (product_outcome (a.top ∷ (all_factors (as_map bs) ++ cond u (b.top ∷ []) [])))
    (below_outcome q.below)) c.over_both.result in
    subst Q (sym unit)
    (subst (λ (m : FactorMap). P m (product_of (product_of a.top (product (as_map bs))) b.top)
    (product_outcome (a.top ∷ (all_factors (as_map bs) ++ b.top ∷ [])))) (ap as_map (append-nil a.below.items))
    (subst_both (P none) top rule (c.over_both.ensures _ _ c.over-top.ensures)))

-- the divisor's numerator is a factor
pub returns : goal.returns
returns c =
    let a = c.args.self in
    let b = c.args.other in
    let bs = b.below.items in
    let A = as_map a.below.items in
    let made = c.over_both-2 in
    let unit : is_unit nat_cmp b.top ≡ false = sym c.is_unit.ensures ∙ c.if-is_unit.false in
    let pushed : c.deref-3.result.now ≡ b.top ∷ [] = c.deref-3.ensures.value ∙ c.in_ok-push-2.ensures.items
    ∙ ap (λ l. l ++ b.top ∷ []) c.new-more.ensures.items in
    let below : as_map (a.below.items ++ c.deref-3.result.now) ≡ times_map A ((b.top, 1) ∷ []) =
    times_is a.below.items c.deref-3.result.now ∙ ap (λ l. times_map A (as_map l)) pushed in
    let P : FactorMap → List Polynomial → Type 0 = λ m l. Gives fraction_of
    (record { top = product_of a.top (product (as_map l)); below = m })
    (worse (over_outcome a.top (as_map l)) (below_outcome m)) made.result in
    let R : List Polynomial → Type 0 = λ all. Gives fraction_of
    (record { top = product_of a.top (product (as_map bs)); below = times_map A ((b.top, 1) ∷ []) })
    (worse (product_outcome (a.top ∷ all)) (below_outcome (times_map A ((b.top, 1) ∷ [])))) made.result in
    let Q : Bool → Type 0 = λ u. let q = frac_quotient nat_cmp u (fraction_of a) (fraction_of b) in
    Gives fraction_of q (worse (product_outcome (a.top ∷ (all_factors (as_map bs) ++ cond u (b.top ∷ []) [])))
    (below_outcome q.below)) made.result in
    subst Q (sym unit)
    (subst R (sym (append-nil (all_factors (as_map bs))))
    (subst_both P below c.deref-2.ensures.value (made.ensures _ _ c.over-top-2.ensures)))
