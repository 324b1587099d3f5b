use Rattle.std.proofs.Common.{◌∙◌}
use Rattle.alg_reify.proofs.FieldSides.{over_left, over_right, both_are}
use Rattle.alg_reify.proofs.fractions.reify_sides.Goals as goal

pub make-requires : goal.make-requires
make-requires g c =
    over_left c.args.file.now c.args.equation.now c.args.table.now c.requires.table c.requires.equation _
    c.new-path.ensures.items

pub make-requires-2 : goal.make-requires-2
make-requires-2 g c =
    over_right c.args.file.now c.args.equation.now c.args.table.now c.requires.table c.requires.equation _
    (c.in_ok-left.ensures.back ∙ c.new-path.ensures.items)

-- both were made
pub returns : goal.returns
returns g c =
    both_are c.args.file.now c.args.equation.now c.args.table.now c.requires.table g.F.FractionForm.fraction
    c.has_char0-char0.result _ _ _ _ _ _ c.in_ok-left.left c.in_ok-right.right c.new-path.ensures.items
    c.requires.none c.in_ok-left.ensures c.in_ok-right.ensures c.has_char0-char0.ensures
