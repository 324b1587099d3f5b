use Rattle.std.proofs.Common.{refl}
use Rattle.alg_reify.proofs.FieldSides.{both_told, numerators_told, numerators_made}
use Rattle.alg_field.specs.Fractions.{fraction_of}
use Rattle.alg_field.proofs.Sides.{sides_failed}
use Rattle.alg_field.proofs.decide.make_sides.Goals as goal

-- a side could not be made
pub returns-in_err-left : goal.returns-in_err-left
returns-in_err-left c =
    sides_failed c.args.file.now c.args.equation.now c.from_residual.result _ c.from_residual.ensures.1
    (both_told c.args.equation.now _ c.in_err-left.ensures)

-- a numerator is refused
pub returns-in_err-left-2 : goal.returns-in_err-left-2
returns-in_err-left-2 c =
    sides_failed c.args.file.now c.args.equation.now c.from_residual-in_err-left-2.result _
    c.from_residual-in_err-left-2.ensures.1
    (numerators_told fraction_of c.args.file.now c.args.equation.now c.reify_sides.new.conditions.items
    c.in_ok-left.left c.in_ok-left.right c.in_ok-left.ensures _ c.in_err-left-2.ensures.refused)

-- both were made
pub returns : goal.returns
returns c =
    let made = c.in_ok-left-2.ensures in
    numerators_made fraction_of c.args.file.now c.args.equation.now c.reify_sides.new.conditions.items
    c.in_ok-left.left c.in_ok-left.right c.in_ok-left.ensures _ _ _ made.left made.right made.fine refl
