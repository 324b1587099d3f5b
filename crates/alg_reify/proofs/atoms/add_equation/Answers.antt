use Rattle.alg_reify.specs.Table.{leaves}
use Rattle.alg_reify.proofs.Insertions.{adds_none}
use Rattle.alg_reify.proofs.atoms.add_equation.Goals as goal

-- the left side failed
pub returns-in_err-add_leaves : goal.returns-in_err-add_leaves
returns-in_err-add_leaves c =
    adds_none c.args.set.now.keys _ _ _ _ (leaves c.args.path.items c.args.equation.now.left)
    (leaves c.args.path.items c.args.equation.now.right)
    c.from_residual.ensures.1 c.in_err-add_leaves.ensures.adds
