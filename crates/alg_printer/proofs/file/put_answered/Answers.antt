use Rattle.std.proofs.Common.{get_or, ap, sym, subst, ◌∙◌}
use Rattle.std.proofs.lemmas.List.{get_or_default}
use Rattle.alg_terms.specs.Members.{no_goal}
use Rattle.alg_reify.specs.Table.{goal_atoms}
use Rattle.alg_printer.proofs.Leaves.{AreAtoms}
use Rattle.alg_printer.proofs.Tables.{goal_has}
use Rattle.alg_printer.proofs.file.put_answered.Goals as goal

-- the atoms of the goal's table are of the file
pub put_answer-requires-clause-atoms : goal.put_answer-requires-clause-atoms
put_answer-requires-clause-atoms c =
    let file = c.args.file.now in
    let it = c.index-items-number.result in
    let is = c.index-items-number.is ∙ ap (λ gs. get_or gs c.args.number it) c.items.ensures
    ∙ get_or_default file.goals c.args.number it no_goal c.requires.declared in
    subst (λ g. AreAtoms file (goal_atoms file g)) (sym is)
    (goal_has file c.args.number c.requires.valid c.requires.declared)
