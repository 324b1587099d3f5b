use Rattle.std.proofs.Common.{List, [], All, Contains, sym, ap, subst, ◌∙◌}
use Rattle.alg_terms.specs.declared.term.Atom.{Atom}
use Rattle.alg_meaning.specs.PolynomialOf.{poly_of}
use Rattle.alg_mono.specs.Outcomes.{first_breach}
use Rattle.alg_reify.specs.Numbered.{numbered}
use Rattle.alg_reify.specs.Table.{leaves}
use Rattle.alg_reify.proofs.Held.{held_left, held_right}
use Rattle.alg_check.proofs.ring.sides.Goals as goal

-- the table holds the atoms of the left side
pub reify-requires-clause-held : goal.reify-requires-clause-held
reify-requires-clause-held c =
    let P : List Atom → Type 0 = λ atoms. All (Contains atoms) (leaves [] c.args.equation.now.left) in
    subst P (sym c.in_ok-table.ensures.ok) (held_left c.args.file.now c.args.equation.now [])

-- and of the right side
pub reify-requires-2-clause-held : goal.reify-requires-2-clause-held
reify-requires-2-clause-held c =
    let P : List Atom → Type 0 = λ atoms. All (Contains atoms) (leaves [] c.args.equation.now.right) in
    subst P (sym c.in_ok-table.ensures.ok) (held_right c.args.file.now c.args.equation.now [])

-- they are over the numbers of the equation's own table
pub returns-clause-left : goal.returns-clause-left
returns-clause-left c =
    c.in_ok-left.ensures.ok
    ∙ ap (λ (atoms : List Atom). numbered atoms (poly_of c.args.equation.now.left)) c.in_ok-table.ensures.ok

pub returns-clause-right : goal.returns-clause-right
returns-clause-right c =
    c.in_ok-right.ensures.ok
    ∙ ap (λ (atoms : List Atom). numbered atoms (poly_of c.args.equation.now.right)) c.in_ok-table.ensures.ok

pub returns-clause-fine : goal.returns-clause-fine
returns-clause-fine c =
    (c.in_ok-table.ensures.small, (λ i. first_breach (c.in_ok-left.ensures.fine i) (c.in_ok-right.ensures.fine i)))
