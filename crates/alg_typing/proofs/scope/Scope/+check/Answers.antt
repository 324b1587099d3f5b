use Rattle.std.proofs.Common.{rules, inl, inr}
use Rattle.alg_reader.specs.declared.raw.RawNode.TheViews.{the_lemmas}
use Rattle.alg_typing.proofs.RawParts.{left_of, right_of, part_of, argument_of}
use Rattle.alg_typing.proofs.Sorted.{joins, combined, divided, imaged}
use Rattle.alg_typing.proofs.scope.Scope.+check.Goals as goal

pub check-requires : goal.check-requires
check-requires t c =
    (search (rules, the_lemmas), part_of _ _ _ c.requires _ (inl c.in-Neg.is) c.get.ensures)

pub check-requires-in-Pow : goal.check-requires-in-Pow
check-requires-in-Pow t c =
    (search (rules, the_lemmas), part_of _ _ _ c.requires _ (inr (_, c.in-Pow.is)) c.get-in-Pow.ensures)

pub check-requires-in-Hom : goal.check-requires-in-Hom
check-requires-in-Hom t c =
    (search (rules, the_lemmas), argument_of _ _ _ c.requires _ _ c.in-Hom.is c.get-in-Hom.ensures)

pub check-requires-in-Div : goal.check-requires-in-Div
check-requires-in-Div t c =
    (search (rules, the_lemmas), left_of _ _ _ c.requires _ _ (inr (inr (inr c.in-Div.is))) c.get-in-Div.ensures)

pub check-requires-in-Div-2 : goal.check-requires-in-Div-2
check-requires-in-Div-2 t c =
    (search (rules, the_lemmas), right_of _ _ _ c.requires _ _ (inr (inr (inr c.in-Div.is))) c.get-in-Div-2.ensures)

pub check-requires-in-Add : goal.check-requires-in-Add
check-requires-in-Add t c =
    let joined = joins c.args.term.now c.in-Add.left c.in-Add.right c.in-Add.is in
    (search (rules, the_lemmas), left_of _ _ _ c.requires _ _ joined c.get-in-Add.ensures)

pub check-requires-in-Add-2 : goal.check-requires-in-Add-2
check-requires-in-Add-2 t c =
    let joined = joins c.args.term.now c.in-Add.left c.in-Add.right c.in-Add.is in
    (search (rules, the_lemmas), right_of _ _ _ c.requires _ _ joined c.get-in-Add-2.ensures)

pub returns-in-Add : goal.returns-in-Add
returns-in-Add t c =
    combined c.args.self.now.declared.now c.args.self.now.text.now c.args.at c.args.term.now _ c.in-Add.left
    c.in-Add.right _ _ _ _ c.in-Add.is c.get-in-Add.ensures c.get-in-Add-2.ensures c.check-in-Add.ensures
    c.check-in-Add-2.ensures c.operator-in-Add.ensures.own c.operator-in-Add.ensures.fault

pub returns-in-Div : goal.returns-in-Div
returns-in-Div t c =
    divided c.args.self.now.declared.now c.args.self.now.text.now c.args.at c.args.term.now _ _ _ _ _ _ _ _ _
    c.in-Div.is c.get-in-Div.ensures c.get-in-Div-2.ensures c.check-in-Div.ensures c.check-in-Div-2.ensures
    c.operator.ensures.own c.operator.ensures.fault c.quotient_fault.ensures c.behind.ensures.own c.behind.ensures.fault

pub returns-in-Hom : goal.returns-in-Hom
returns-in-Hom t c =
    imaged c.args.self.now.declared.now c.args.self.now.text.now c.args.at c.args.term.now _ _ _ _ _ _ _
    c.in-Hom.is c.get-in-Hom.ensures c.number_at-hom.ensures c.below.ensures c.check-in-Hom.ensures
    c.image.ensures.own c.image.ensures.fault
