use Rattle.std.proofs.Common.{List, [], All, Contains, sym, subst}
use Rattle.alg_terms.specs.declared.term.Atom.{Atom}
use Rattle.alg_reify.specs.Table.{leaves}
use Rattle.alg_reify.proofs.Held.{held_left}
use Rattle.alg_reify_tests.proofs.tables.left_side.Goals as goal

-- the equation's table holds the atoms of its left side
pub reify-made-requires-clause-held : goal.reify-made-requires-clause-held
reify-made-requires-clause-held c =
    let P : List Atom → Type 0 = λ atoms. All (Contains atoms) (leaves [] c.args.equation.now.left) in
    subst P (sym c.in_ok-table.ensures.ok) (held_left c.args.file.now c.args.equation.now [])
