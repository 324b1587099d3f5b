use Rattle.std.proofs.Common.{rules, ◌≡◌, ◌∷◌, ◌∙◌, subst}
use Rattle.std.specs.declared.result.Result.{Result}
use Rattle.alg_mono.specs.declared.ends.Overrun.{Overrun}
use Rattle.alg_mono.specs.Outcomes.{Outcome, product_outcome}
use Rattle.alg_check.specs.Bounds.{Fits}
use Rattle.alg_check.proofs.Sizes.{nothing_made, fine_bounds, fits_product}
use Rattle.alg_check.proofs.product.product.Goals as goal

-- a factor is zero
pub returns-then-size-eq0-clause-product : goal.returns-then-size-eq0-clause-product
returns-then-size-eq0-clause-product c =
    c.zero.ensures
    ∙ nothing_made c.args.first c.args.rest.now c.size_over-size.result c.size_over-size.ensures c.if-size-eq0.true

-- the product is within the limits
pub times_all-requires : goal.times_all-requires
times_all-requires c =
    let size = c.size_over-size.result in
    let P : Result (Unit {0}) Overrun → Type 0 = λ r. Fits (product_outcome (c.args.first ∷ c.args.rest.now)) r in
    let fine : product_outcome (c.args.first ∷ c.args.rest.now) ≡ Outcome.Fine =
    subst P c.in-Ok.is
    (fits_product (c.args.first ∷ c.args.rest.now) size c.size_over-size.ensures c.fits.result c.fits.ensures) in
    let some : size.norm ≡ 0 → ⊥ = let test = c.if-size-eq0.false in λ none. search rules in
    let bounds = fine_bounds c.args.first c.args.rest.now size c.size_over-size.ensures some fine in
    record { some = bounds.0; norms = bounds.1; degrees = bounds.2 }

pub returns-in_ok-times_all-in-Ok-clause-fine : goal.returns-in_ok-times_all-in-Ok-clause-fine
returns-in_ok-times_all-in-Ok-clause-fine c =
    let P : Result (Unit {0}) Overrun → Type 0 = λ r. Fits (product_outcome (c.args.first ∷ c.args.rest.now)) r in
    subst P c.in-Ok.is
    (fits_product (c.args.first ∷ c.args.rest.now) c.size_over-size.result c.size_over-size.ensures c.fits.result
    c.fits.ensures)

-- it is not
pub returns-in-Err-clause-refused : goal.returns-in-Err-clause-refused
returns-in-Err-clause-refused c =
    let P : Result (Unit {0}) Overrun → Type 0 = λ r. Fits (product_outcome (c.args.first ∷ c.args.rest.now)) r in
    subst P c.in-Err.is
    (fits_product (c.args.first ∷ c.args.rest.now) c.size_over-size.result c.size_over-size.ensures c.fits.result
    c.fits.ensures)
