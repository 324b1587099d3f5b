use Rattle.std.proofs.Common.{◌≡◌, ap, ◌∙◌}
use Rattle.alg_mono.specs.NumberedPolynomials.{Polynomial, power_of}
use Rattle.alg_mono.specs.Outcomes.{power_outcome}
use Rattle.alg_reify.specs.FactorMaps.{power_map}
use Rattle.alg_reify.proofs.Giving.{gives}
use Rattle.alg_check.specs.Factors.{as_map, repeated}
use Rattle.alg_check.proofs.FactorCounts.{power_is}
use Rattle.alg_check.proofs.FractionSteps.{power_fits}
use Rattle.alg_check.proofs.fractions.FractionFractionForm.power.Goals as goal

-- the numerator and the factors were made
pub returns-in-Ok : goal.returns-in-Ok
returns-in-Ok c =
    let a = c.args.self in
    let n = c.args.n in
    let bs = a.below.items in
    let given = gives (λ (q : Polynomial). q) (power_of a.top n) (power_outcome a.top n) c.power.result
    c.power.ensures.power c.power.ensures.fine c.power.ensures.refused in
    let fit = power_fits n bs c.deref.result.now c.deref.ensures.value c.size_of.result c.power-size.result
    c.size_of.ensures c.power-size.ensures c.fits.result c.fits.ensures in
    let made = c.in-Ok.ensures (power_of a.top n) (power_outcome a.top n) _ given fit in
    let below : as_map c.in_ok-repeated-in-Ok.field-0.items ≡ power_map (as_map bs) n =
    ap as_map (c.in_ok-repeated-in-Ok.ensures ∙ ap (repeated n) c.deref-in-Ok.ensures.value) ∙ power_is n bs in
    ((λ i. record { top = made.0 i; below = below i }), made.1)

-- one is refused
pub returns : goal.returns
returns c =
    let a = c.args.self in
    let n = c.args.n in
    let given = gives (λ (q : Polynomial). q) (power_of a.top n) (power_outcome a.top n) c.power.result
    c.power.ensures.power c.power.ensures.fine c.power.ensures.refused in
    c.in-Err.ensures (power_of a.top n) (power_outcome a.top n) _ given
    (power_fits n a.below.items c.deref.result.now c.deref.ensures.value c.size_of.result c.power-size.result
    c.size_of.ensures c.power-size.ensures c.fits.result c.fits.ensures)
