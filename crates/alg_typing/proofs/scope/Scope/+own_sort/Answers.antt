use Rattle.std.proofs.Common.{rules}
use Rattle.alg_reader.specs.declared.raw.RawNode.TheViews.{the_lemmas}
use Rattle.alg_typing.proofs.RawParts.{left_of, right_of, part_of}
use Rattle.alg_typing.proofs.scope.Scope.+own_sort.Goals as goal

pub own_sort-requires : goal.own_sort-requires
own_sort-requires t c =
    (search (rules, the_lemmas), left_of _ _ _ c.requires _ _ c.in-Add.is c.get.ensures)

pub own_sort-requires-in-Add : goal.own_sort-requires-in-Add
own_sort-requires-in-Add t c =
    (search (rules, the_lemmas), right_of _ _ _ c.requires _ _ c.in-Add.is c.get-in-Add.ensures)

pub own_sort-requires-in-Neg : goal.own_sort-requires-in-Neg
own_sort-requires-in-Neg t c =
    (search (rules, the_lemmas), part_of _ _ _ c.requires _ c.in-Neg.is c.get-in-Neg.ensures)
