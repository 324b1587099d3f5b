use Rattle.std.proofs.Common.{List, [], All, Contains, sym, subst}
use Rattle.alg_terms.specs.declared.term.Atom.{Atom}
use Rattle.alg_reify.specs.Table.{equation_leaves, use_leaves}
use Rattle.alg_reify.proofs.Held.{held_sides, held_uses}
use Rattle.alg_check.proofs.preparing.prepare.Goals as goal

pub difference-requires-clause-held : goal.difference-requires-clause-held
difference-requires-clause-held c =
    let P : List Atom → Type 0 = λ atoms. All (Contains atoms) (equation_leaves [] c.args.equation.now) in
    subst P (sym c.in_ok-table.ensures.ok) (held_sides c.args.file.now c.args.equation.now c.args.uses.now)

pub used_differences-requires-clause-held : goal.used_differences-requires-clause-held
used_differences-requires-clause-held c =
    let P : List Atom → Type 0 =
    λ atoms. All (λ u. All (Contains atoms) (use_leaves c.args.file.now u)) c.args.uses.now in
    subst P (sym c.in_ok-table.ensures.ok) (held_uses c.args.file.now c.args.equation.now c.args.uses.now)
