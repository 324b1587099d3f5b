use Rattle.std.proofs.Common.{refl}
use Rattle.alg_reify.proofs.FieldSides.{numerators_told, numerators_made}
use Rattle.alg_check.specs.Factors.{fraction_of}
use Rattle.alg_check.proofs.field.make_sides.Goals as goal

-- both numerators were made
pub returns-in-Ok : goal.returns-in-Ok
returns-in-Ok c =
    let are = c.in-Ok.ensures in
    numerators_made fraction_of c.args.file.now c.args.equation.now c.reify_sides.new.conditions.items
    c.in_ok-left.left c.in_ok-left.right c.in_ok-left.ensures _ _ _ (λ i. (are.0 i).0) (λ i. (are.0 i).1) are.1 refl

-- they are refused
pub returns-in-Err : goal.returns-in-Err
returns-in-Err c =
    numerators_told fraction_of c.args.file.now c.args.equation.now c.reify_sides.new.conditions.items
    c.in_ok-left.left c.in_ok-left.right c.in_ok-left.ensures c.in-Err.end c.in-Err.ensures
