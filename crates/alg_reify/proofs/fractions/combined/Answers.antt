use Rattle.std.proofs.Common.{refl, sym, ap, subst, ◌∙◌}
use Rattle.alg_reify.specs.MakingFractions.{Operation, operation, Combines}
use Rattle.alg_terms.proofs.Views.{Binary}
use Rattle.alg_reify.proofs.Operations.{operation_binary, in_any_case}
use Rattle.alg_reify.proofs.fractions.combined.Goals as goal

pub returns-in-Add : goal.returns-in-Add
returns-in-Add g c =
    let seen = c.args.conditions.now.items in
    let P : Operation → Type 0 = λ op. Combines g.F.FractionForm.fraction c.args.char0 op (g.F.FractionForm.fraction
    c.args.left)
    (g.F.FractionForm.fraction c.args.right)
    seen seen c.ended.result in
    subst P (sym (ap operation c.in-Add.is ∙ operation_binary Binary.Sum _ _))
    (in_any_case c.ended.result refl, c.ended.ensures _ _ c.sum.ensures)

pub returns-in-Sub : goal.returns-in-Sub
returns-in-Sub g c =
    let seen = c.args.conditions.now.items in
    let P : Operation → Type 0 = λ op. Combines g.F.FractionForm.fraction c.args.char0 op (g.F.FractionForm.fraction
    c.args.left)
    (g.F.FractionForm.fraction c.args.right)
    seen seen c.ended-in-Sub.result in
    subst P (sym (ap operation c.in-Sub.is ∙ operation_binary Binary.Difference _ _))
    (in_any_case c.ended-in-Sub.result refl, c.ended-in-Sub.ensures _ _ c.difference.ensures)

pub returns-in-Mul : goal.returns-in-Mul
returns-in-Mul g c =
    let seen = c.args.conditions.now.items in
    let P : Operation → Type 0 = λ op. Combines g.F.FractionForm.fraction c.args.char0 op (g.F.FractionForm.fraction
    c.args.left)
    (g.F.FractionForm.fraction c.args.right)
    seen seen c.ended-in-Mul.result in
    subst P (sym (ap operation c.in-Mul.is ∙ operation_binary Binary.Product _ _))
    (in_any_case c.ended-in-Mul.result refl, c.ended-in-Mul.ensures _ _ c.product.ensures)

pub returns-in-Div : goal.returns-in-Div
returns-in-Div g c =
    let P : Operation → Type 0 = λ op. Combines g.F.FractionForm.fraction c.args.char0 op (g.F.FractionForm.fraction
    c.args.left)
    (g.F.FractionForm.fraction c.args.right)
    c.args.conditions.now.items c.divided.new.conditions.items c.divided.result in
    subst P (ap Operation.Quotient c.get.ensures ∙ sym (ap operation c.in-Div.is
    ∙ operation_binary Binary.Quotient _ _)) c.divided.ensures
