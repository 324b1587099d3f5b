use Rattle.std.proofs.Common.{◌∙◌, ap, sym, subst, map}
use Rattle.std.specs.Prelude.{All}
use Rattle.alg_reader.specs.WellRead.{IsNameAt}
use Rattle.alg_typing.specs.Resolved.{number_at}
use Rattle.alg_annotated.proofs.AtomNames.{atom_from}
use Rattle.alg_annotated.proofs.scope.Scope.atom_of.Goals as goal

pub path_of-requires : goal.path_of-requires
path_of-requires c =
    subst (All (IsNameAt c.args.self.now.text.now)) (sym c.as_slice.ensures.value) c.requires.homs

pub returns : goal.returns
returns c =
    let file = c.args.self.now.declared.now in
    let text = c.args.self.now.text.now in
    let names = c.args.names.now in
    sym (atom_from file text names.var names.homs.items _ _
    (c.from_vec.ensures ∙ c.in_ok-path.ensures ∙ ap (map (number_at file text)) c.as_slice.ensures.value)
    c.number_at-var.ensures)
