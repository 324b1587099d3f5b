use Rattle.std.proofs.Common.{rules, SFits, to_z-of_z, ◌++◌, codes, sym, ap, ◌∙◌}
use mir.Syntax.{w128}
use Rattle.alg_terms.specs.declared.term.Term.TheViews.{the_lemmas}
use Rattle.alg_terms.proofs.Views.{Unary, Binary}
use Rattle.alg_printer.specs.Names.{hom_name}
use Rattle.alg_printer.specs.Terms.{term_text}
use Rattle.alg_printer.proofs.Named.{named-Var, named-Hom, named_part, named_left, named_right}
use Rattle.alg_printer.proofs.Pieces.{on_ok, in_front, more, grew}
use Rattle.alg_printer.proofs.TermTexts.{text-Var, text-Int, text-Neg, text-Pow, text-Hom, text_binary}
use Rattle.alg_printer.proofs.terms.+printing.Goals as goal

-- what is printed is of the file
pub put_term-put_variable-requires : goal.put_term-put_variable-requires
put_term-put_variable-requires t c = named-Var c.args.file.now _ _ c.in-Var.is c.requires

pub put_term-put_morphism-requires : goal.put_term-put_morphism-requires
put_term-put_morphism-requires t c = named-Hom c.args.file.now _ _ _ c.in-Hom.is c.requires

pub put_term-put_part-requires : goal.put_term-put_part-requires
put_term-put_part-requires t c =
    (search (rules, the_lemmas), named_part Unary.Opposite c.args.file.now _ _ _ c.in-Neg.is c.get.ensures c.requires)

pub put_term-put_part-requires-in-Pow : goal.put_term-put_part-requires-in-Pow
put_term-put_part-requires-in-Pow t c = (
  search (rules, the_lemmas),
  named_part (Unary.Power _) c.args.file.now _ _ _ c.in-Pow.is c.get-in-Pow.ensures c.requires,
)

pub put_term-put_term-requires : goal.put_term-put_term-requires
put_term-put_term-requires t c = (
  search (rules, the_lemmas),
  named_part (Unary.Image _) c.args.file.now _ _ _ c.in-Hom.is c.get-in-Hom.ensures c.requires,
)

pub put_term-put_part-requires-in-Add : goal.put_term-put_part-requires-in-Add
put_term-put_part-requires-in-Add t c = (
  search (rules, the_lemmas),
  named_left Binary.Sum c.args.file.now _ _ _ _ c.in-Add.is c.get-in-Add.ensures c.requires,
)

pub put_term-put_part-requires-in-Add-2 : goal.put_term-put_part-requires-in-Add-2
put_term-put_part-requires-in-Add-2 t c = (
  search (rules, the_lemmas),
  named_right Binary.Sum c.args.file.now _ _ _ _ c.in-Add.is c.get-in-Add-2.ensures c.requires,
)

pub put_term-put_part-requires-in-Sub : goal.put_term-put_part-requires-in-Sub
put_term-put_part-requires-in-Sub t c = (
  search (rules, the_lemmas),
  named_left Binary.Difference c.args.file.now _ _ _ _ c.in-Sub.is c.get-in-Sub.ensures c.requires,
)

pub put_term-put_part-requires-in-Sub-2 : goal.put_term-put_part-requires-in-Sub-2
put_term-put_part-requires-in-Sub-2 t c = (
  search (rules, the_lemmas),
  named_right Binary.Difference c.args.file.now _ _ _ _ c.in-Sub.is c.get-in-Sub-2.ensures c.requires,
)

pub put_term-put_part-requires-in-Mul : goal.put_term-put_part-requires-in-Mul
put_term-put_part-requires-in-Mul t c = (
  search (rules, the_lemmas),
  named_left Binary.Product c.args.file.now _ _ _ _ c.in-Mul.is c.get-in-Mul.ensures c.requires,
)

pub put_term-put_part-requires-in-Mul-2 : goal.put_term-put_part-requires-in-Mul-2
put_term-put_part-requires-in-Mul-2 t c = (
  search (rules, the_lemmas),
  named_right Binary.Product c.args.file.now _ _ _ _ c.in-Mul.is c.get-in-Mul-2.ensures c.requires,
)

pub put_term-put_part-requires-in-Div : goal.put_term-put_part-requires-in-Div
put_term-put_part-requires-in-Div t c = (
  search (rules, the_lemmas),
  named_left Binary.Quotient c.args.file.now _ _ _ _ c.in-Div.is c.get-in-Div.ensures c.requires,
)

pub put_term-put_part-requires-in-Div-2 : goal.put_term-put_part-requires-in-Div-2
put_term-put_part-requires-in-Div-2 t c = (
  search (rules, the_lemmas),
  named_right Binary.Quotient c.args.file.now _ _ _ _ c.in-Div.is c.get-in-Div-2.ensures c.requires,
)

-- the text grew by that of the node
pub put_term-returns-in-Var : goal.put_term-returns-in-Var
put_term-returns-in-Var t c =
    on_ok c.put_variable.result _ _
    (λ h. h ∙ ap (λ l. c.args.text.now ++ l) (sym (text-Var c.args.file.now _ _ c.in-Var.is))) c.put_variable.ensures

pub put_term-returns-in-Int : goal.put_term-returns-in-Int
put_term-returns-in-Int t c =
    let fits : SFits w128 c.in-Int.value = search rules in
    on_ok c.integer.result _ _
    (λ h. h ∙ ap (λ l. c.args.text.now ++ l) (sym (text-Int c.args.file.now _ _ c.in-Int.is)))
    (simp to_z-of_z at c.integer.ensures)

pub put_term-returns-in_ok-put-in-Neg : goal.put_term-returns-in_ok-put-in-Neg
put_term-returns-in_ok-put-in-Neg t c =
    grew c.put_part.result _ _ _ _ _ _ (text-Neg c.args.file.now _ _ _ c.in-Neg.is c.get.ensures)
    c.in_ok-put-in-Neg.ensures c.put_part.ensures

pub put_term-returns-in_ok-put-in-Pow : goal.put_term-returns-in_ok-put-in-Pow
put_term-returns-in_ok-put-in-Pow t c =
    grew c.natural.result _ _ _ _ _ _ (text-Pow c.args.file.now _ _ _ _ c.in-Pow.is c.get-in-Pow.ensures)
    (more _ _ _ _ _ c.in_ok-put_part-in-Pow.ensures c.in_ok-put-in-Pow.ensures) c.natural.ensures

pub put_term-returns-in_ok-put_term-in-Hom : goal.put_term-returns-in_ok-put_term-in-Hom
put_term-returns-in_ok-put_term-in-Hom t c =
    grew c.put-in-Hom-2.result _ _ _ _ _ _
    (text-Hom c.args.file.now _ _ _ _ c.in-Hom.is c.get-in-Hom.ensures
    ∙ in_front (hom_name c.args.file.now c.in-Hom.number) (codes "(")
    (term_text c.args.file.now c.get-in-Hom.result.now) (codes ")"))
    (more _ _ _ _ _ (more _ _ _ _ _ c.in_ok-put_morphism-in-Hom.ensures c.in_ok-put-in-Hom.ensures)
    c.in_ok-put_term-in-Hom.ensures)
    c.put-in-Hom-2.ensures

pub put_term-returns-in_ok-put-in-Add : goal.put_term-returns-in_ok-put-in-Add
put_term-returns-in_ok-put-in-Add t c =
    grew c.put_part-in-Add-2.result _ _ _ _ _ _
    (text_binary Binary.Sum c.args.file.now _ _ _ _ _ c.in-Add.is c.get-in-Add.ensures c.get-in-Add-2.ensures)
    (more _ _ _ _ _ c.in_ok-put_part-in-Add.ensures c.in_ok-put-in-Add.ensures) c.put_part-in-Add-2.ensures

pub put_term-returns-in_ok-put-in-Sub : goal.put_term-returns-in_ok-put-in-Sub
put_term-returns-in_ok-put-in-Sub t c =
    grew c.put_part-in-Sub-2.result _ _ _ _ _ _
    (text_binary Binary.Difference c.args.file.now _ _ _ _ _ c.in-Sub.is c.get-in-Sub.ensures c.get-in-Sub-2.ensures)
    (more _ _ _ _ _ c.in_ok-put_part-in-Sub.ensures c.in_ok-put-in-Sub.ensures) c.put_part-in-Sub-2.ensures

pub put_term-returns-in_ok-put-in-Mul : goal.put_term-returns-in_ok-put-in-Mul
put_term-returns-in_ok-put-in-Mul t c =
    grew c.put_part-in-Mul-2.result _ _ _ _ _ _
    (text_binary Binary.Product c.args.file.now _ _ _ _ _ c.in-Mul.is c.get-in-Mul.ensures c.get-in-Mul-2.ensures)
    (more _ _ _ _ _ c.in_ok-put_part-in-Mul.ensures c.in_ok-put-in-Mul.ensures) c.put_part-in-Mul-2.ensures

pub put_term-returns-in_ok-put-in-Div : goal.put_term-returns-in_ok-put-in-Div
put_term-returns-in_ok-put-in-Div t c =
    grew c.put_part-in-Div-2.result _ _ _ _ _ _
    (text_binary Binary.Quotient c.args.file.now _ _ _ _ _ c.in-Div.is c.get-in-Div.ensures c.get-in-Div-2.ensures)
    (more _ _ _ _ _ c.in_ok-put_part-in-Div.ensures c.in_ok-put-in-Div.ensures) c.put_part-in-Div-2.ensures
