use Rattle.std.proofs.Common.{[], ◌∙◌, ap, sym}
use Rattle.std.specs.Prelude.{position, unwrap_or}
use Rattle.alg_reify.specs.Numbered.{number_of}
use Rattle.alg_reify.specs.Table.{atom_eq}
use Rattle.alg_annotated.proofs.ClearMonomials.{atom_found, number_found}
use Rattle.alg_annotated.proofs.scope.Scope.factor_number.Goals as goal

pub returns : goal.returns
returns c =
    let file = c.args.self.now.declared.now in
    let text = c.args.self.now.text.now in
    let atoms = unwrap_or c.args.atoms.now [] in
    number_found file text atoms c.in_ok-atom.atom _ (sym c.in-Some.is ∙ c.find.ensures)
    ∙ ap (number_of atoms) c.in_ok-atom.ensures

-- the atom is in the table
pub unreachable-requires : goal.unreachable-requires
unreachable-requires c =
    let file = c.args.self.now.declared.now in
    let text = c.args.self.now.text.now in
    let atoms = unwrap_or c.args.atoms.now [] in
    absurd (atom_found file text atoms c.args.factor.now c.requires.there
    (ap (λ a. position (atom_eq a) atoms) (sym c.in_ok-atom.ensures) ∙ sym c.find.ensures ∙ c.in-None.is))
