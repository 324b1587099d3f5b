use Rattle.std.proofs.Common.{sym, subst, List, ℕ}
use Rattle.alg_reify.specs.Table.{leaves}
use Rattle.alg_reify.specs.Adding.{Adds}
use Rattle.alg_reify.proofs.Insertions.{adds_both, adds_none}
use Rattle.alg_reify.proofs.Leaves.{leaves-both}
use Rattle.alg_reify.proofs.atoms.+add_leaves.Goals as goal

-- the left part failed
pub returns-in_err-add_leaves-in-Add-clause-adds : goal.returns-in_err-add_leaves-in-Add-clause-adds
returns-in_err-add_leaves-in-Add-clause-adds t c =
    rw (leaves-both c.args.path.now.items _ _ _ c.in-Add.is)
    (rw (sym c.get-in-Add.ensures)
    (adds_none c.args.set.now.keys _ _ _ _ (leaves c.args.path.now.items c.get-in-Add.result.now)
    (leaves c.args.path.now.items c.in-Add.right)
    c.from_residual-in_err-add_leaves-in-Add.ensures.1 c.in_err-add_leaves-in-Add.ensures.adds))

-- the left part was added, and then the right
pub returns-in_ok-add_leaves-in-Add-clause-adds : goal.returns-in_ok-add_leaves-in-Add-clause-adds
returns-in_ok-add_leaves-in-Add-clause-adds t c =
    let path = c.args.path.now.items in
    let left = c.in_ok-add_leaves-in-Add.ensures in
    let P : List ℕ → Type 0 =
    λ p. Adds c.add_leaves-in-Add.new.set.keys c.add_leaves-in-Add-2.result c.add_leaves-in-Add-2.new.set.keys
    (leaves p c.get-in-Add-2.result.now) in
    rw (leaves-both path _ _ _ c.in-Add.is)
    (rw (sym c.get-in-Add.ensures)
    (rw (sym c.get-in-Add-2.ensures)
    (adds_both c.args.set.now.keys _ _ _ (leaves path c.get-in-Add.result.now)
    (leaves path c.get-in-Add-2.result.now) left.adds.0
    (subst P left.path c.add_leaves-in-Add-2.ensures.adds))))
