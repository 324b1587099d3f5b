use Rattle.std.proofs.Common.{rules, inl, inr}
use Rattle.alg_reader.specs.declared.raw.RawNode.TheViews.{the_lemmas}
use Rattle.alg_typing.proofs.RawParts.{small_left, small_right, small_part, small_argument}
use Rattle.alg_typing.proofs.scope.Scope.+terms.Goals as goal

pub term_of-part_of-requires : goal.term_of-part_of-requires
term_of-part_of-requires t c =
    (search (rules, the_lemmas), small_part _ _ _ c.requires _ (inl c.in-Neg.is) c.get.ensures)

pub term_of-part_of-requires-in-Add : goal.term_of-part_of-requires-in-Add
term_of-part_of-requires-in-Add t c =
    (search (rules, the_lemmas), small_left _ _ _ c.requires _ _ (inl c.in-Add.is) c.get-in-Add.ensures)

pub term_of-part_of-requires-in-Add-2 : goal.term_of-part_of-requires-in-Add-2
term_of-part_of-requires-in-Add-2 t c =
    (search (rules, the_lemmas), small_right _ _ _ c.requires _ _ (inl c.in-Add.is) c.get-in-Add-2.ensures)

pub term_of-part_of-requires-in-Sub : goal.term_of-part_of-requires-in-Sub
term_of-part_of-requires-in-Sub t c =
    (search (rules, the_lemmas), small_left _ _ _ c.requires _ _ (inr (inl c.in-Sub.is)) c.get-in-Sub.ensures)

pub term_of-part_of-requires-in-Sub-2 : goal.term_of-part_of-requires-in-Sub-2
term_of-part_of-requires-in-Sub-2 t c =
    (search (rules, the_lemmas), small_right _ _ _ c.requires _ _ (inr (inl c.in-Sub.is)) c.get-in-Sub-2.ensures)

pub term_of-part_of-requires-in-Mul : goal.term_of-part_of-requires-in-Mul
term_of-part_of-requires-in-Mul t c =
    (search (rules, the_lemmas), small_left _ _ _ c.requires _ _ (inr (inr (inl c.in-Mul.is))) c.get-in-Mul.ensures)

pub term_of-part_of-requires-in-Mul-2 : goal.term_of-part_of-requires-in-Mul-2
term_of-part_of-requires-in-Mul-2 t c =
    (search (rules, the_lemmas), small_right _ _ _ c.requires _ _ (inr (inr (inl c.in-Mul.is))) c.get-in-Mul-2.ensures)

pub term_of-part_of-requires-in-Div : goal.term_of-part_of-requires-in-Div
term_of-part_of-requires-in-Div t c =
    (search (rules, the_lemmas), small_left _ _ _ c.requires _ _ (inr (inr (inr c.in-Div.is))) c.get-in-Div.ensures)

pub term_of-part_of-requires-in-Div-2 : goal.term_of-part_of-requires-in-Div-2
term_of-part_of-requires-in-Div-2 t c =
    (search (rules, the_lemmas), small_right _ _ _ c.requires _ _ (inr (inr (inr c.in-Div.is))) c.get-in-Div-2.ensures)

pub term_of-part_of-requires-in-Pow : goal.term_of-part_of-requires-in-Pow
term_of-part_of-requires-in-Pow t c =
    (search (rules, the_lemmas), small_part _ _ _ c.requires _ (inr (_, c.in-Pow.is)) c.get-in-Pow.ensures)

pub term_of-part_of-requires-in-Hom : goal.term_of-part_of-requires-in-Hom
term_of-part_of-requires-in-Hom t c =
    (search (rules, the_lemmas), small_argument _ _ _ c.requires _ _ c.in-Hom.is c.get-in-Hom.ensures)
