use Rattle.std.proofs.Common.{◌≡◌, [], ◌∷◌, ◌++◌, ap, subst, ◌∙◌}
use Rattle.alg_mono.specs.NumberedPolynomials.{Polynomial, product_of}
use Rattle.alg_mono.specs.Outcomes.{product_outcome}
use Rattle.alg_meaning.specs.FractionRules.{worse, below_outcome}
use Rattle.alg_reify.specs.FactorMaps.{FactorMap, times_map}
use Rattle.alg_reify.specs.Making.{Gives}
use Rattle.alg_reify.proofs.Giving.{gives}
use Rattle.alg_check.specs.Factors.{as_map, fraction_of}
use Rattle.alg_check.proofs.FactorCounts.{times_is}
use Rattle.alg_check.proofs.fractions.FractionFractionForm.product.Goals as goal

-- the factors of both
pub returns : goal.returns
returns c =
    let a = c.args.self in
    let b = c.args.other in
    let top = product_of a.top b.top in
    let rule = product_outcome (a.top ∷ b.top ∷ []) in
    let made = c.times-top in
    let below : as_map (a.below.items ++ c.deref.result.now) ≡ times_map (as_map a.below.items) (as_map b.below.items) =
    times_is a.below.items c.deref.result.now
    ∙ ap (λ l. times_map (as_map a.below.items) (as_map l)) c.deref.ensures.value in
    let P : FactorMap → Type 0 = λ m. Gives fraction_of (record { top = top; below = m })
    (worse rule (below_outcome m)) c.over_both.result in
    subst P below
    (c.over_both.ensures top rule (gives (λ (q : Polynomial). q) top rule made.result made.ensures.product
    made.ensures.fine made.ensures.refused))
