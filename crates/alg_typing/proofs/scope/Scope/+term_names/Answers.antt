use Rattle.std.proofs.Common.{rules}
use Rattle.alg_reader.specs.declared.raw.RawNode.TheViews.{the_lemmas}
use Rattle.alg_typing.proofs.RawParts.{left_of, right_of, part_of, argument_of}
use Rattle.alg_typing.proofs.scope.Scope.+term_names.Goals as goal

pub term_names-requires : goal.term_names-requires
term_names-requires t c =
    (search (rules, the_lemmas), argument_of _ _ _ c.requires _ _ c.in-Hom.is c.get.ensures)

pub term_names-requires-in-Add : goal.term_names-requires-in-Add
term_names-requires-in-Add t c =
    (search (rules, the_lemmas), left_of _ _ _ c.requires _ _ c.in-Add.is c.get-in-Add.ensures)

pub term_names-requires-in-Add-2 : goal.term_names-requires-in-Add-2
term_names-requires-in-Add-2 t c =
    (search (rules, the_lemmas), right_of _ _ _ c.requires _ _ c.in-Add.is c.get-in-Add-2.ensures)

pub term_names-requires-in-Neg : goal.term_names-requires-in-Neg
term_names-requires-in-Neg t c =
    (search (rules, the_lemmas), part_of _ _ _ c.requires _ c.in-Neg.is c.get-in-Neg.ensures)
