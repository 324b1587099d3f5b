use Rattle.alg_reify.proofs.MadeDifferences.{both_made, difference_fine, difference_told}
use Rattle.alg_reify.proofs.Prepared.{left_held, right_held}
use Rattle.alg_nsatz.proofs.preparing.difference.Goals as goal

pub reify-requires-clause-held : goal.reify-requires-clause-held
reify-requires-clause-held c =
    left_held c.args.table.now c.args.path.now c.args.equation.now c.requires.held

pub reify-requires-2-clause-held : goal.reify-requires-2-clause-held
reify-requires-2-clause-held c =
    right_held c.args.table.now c.args.path.now c.args.equation.now c.requires.held

pub returns-clause-ok : goal.returns-clause-ok
returns-clause-ok c =
    both_made c.args.table.now c.args.path.now c.args.equation.now c.requires.held _ _ c.sub.result
    c.in_ok-left.ensures.ok c.in_ok-right.ensures.ok c.sub.ensures.difference

pub returns-clause-fine : goal.returns-clause-fine
returns-clause-fine c =
    difference_fine c.args.table.now c.args.path.now c.args.equation.now c.requires.held _ _ c.sub.result
    c.in_ok-left.ensures.ok c.in_ok-right.ensures.ok c.in_ok-left.ensures.fine c.in_ok-right.ensures.fine
    c.sub.ensures.fine

pub returns-clause-refused : goal.returns-clause-refused
returns-clause-refused c =
    difference_told c.args.table.now c.args.path.now c.args.equation.now c.requires.held _ _ c.sub.result
    c.in_ok-left.ensures.ok c.in_ok-right.ensures.ok c.in_ok-left.ensures.fine c.in_ok-right.ensures.fine
    c.sub.ensures.refused
