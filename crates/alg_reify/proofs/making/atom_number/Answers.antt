use Rattle.std.proofs.Common.{◌∙◌}
use Rattle.alg_reify.proofs.Numbering.{found}
use Rattle.alg_reify.proofs.making.atom_number.Goals as goal

-- the table holds the atom
pub unreachable-requires : goal.unreachable-requires
unreachable-requires c =
    found c.args.table.now c.args.path.now _ c.args.var _
    (c.from_vec-path.ensures ∙ c.in_ok-from_slice.ensures.items) c.requires
    c.find.ensures c.in-None.is
