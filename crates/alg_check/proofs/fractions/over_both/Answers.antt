use Rattle.std.proofs.Common.{◌++◌, sym, ap, subst, ◌∙◌}
use Rattle.alg_mono.specs.Outcomes.{Outcome, product_outcome}
use Rattle.alg_check.specs.Bounds.{Fits}
use Rattle.alg_check.specs.Factors.{as_map}
use Rattle.alg_check.proofs.FactorCounts.{below_is}
use Rattle.alg_check.proofs.Sizes.{fits_product}
use Rattle.alg_check.proofs.fractions.over_both.Goals as goal

-- the factors keep the rules, and the numerator was made
pub returns-in_ok-append-in-Ok : goal.returns-in_ok-append-in-Ok
returns-in_ok-append-in-Ok c p o given =
    let more = c.args.more.now in
    let all = c.deref.result.now ++ more in
    let fit = fits_product all c.size_of_both.result c.size_of_both.ensures c.fits.result c.fits.ensures in
    let rule = ap (λ l. product_outcome (l ++ more)) c.deref.ensures.value ∙ sym (below_is (c.args.own.items ++
    more)) in
    let made = c.in-Ok.ensures p o _ given (subst (λ (u : Outcome). Fits u c.fits.result) rule fit) in
    ((λ i. record { top = made.0 i; below = as_map (c.in_ok-append-in-Ok.ensures i) }), made.1)

-- one is refused
pub returns-in-Err : goal.returns-in-Err
returns-in-Err c p o given =
    let more = c.args.more.now in
    let all = c.deref.result.now ++ more in
    let fit = fits_product all c.size_of_both.result c.size_of_both.ensures c.fits.result c.fits.ensures in
    let rule = ap (λ l. product_outcome (l ++ more)) c.deref.ensures.value ∙ sym (below_is (c.args.own.items ++
    more)) in
    c.in-Err.ensures p o _ given (subst (λ (u : Outcome). Fits u c.fits.result) rule fit)
