use Rattle.std.proofs.Common.{rules, refl, SFits, to_z-of_z}
use Rattle.std.specs.Int.{w128}
use Rattle.alg_terms.specs.declared.term.Term.TheViews.{the_lemmas}
use Rattle.alg_terms.proofs.Views.{Unary, Binary}
use Rattle.alg_reify.proofs.Parts.{part, parts, over_part, over_inner, over_left, over_right_after, literal, divides, held_atom}
use Rattle.alg_reify.proofs.Results.{part_failed, left_failed, right_failed, binary_made, power_made, opposite_made, image_made, constant_made, atom_made}
use Rattle.alg_reify.proofs.making.+make.Goals as goal

-- a literal is a constant within the limits
pub constant-requires : goal.constant-requires
constant-requires g t c =
    let small = literal c.args.term.now c.in-Int.value c.in-Int.is c.requires.literals in
    let fits : SFits w128 c.in-Int.value = search rules in
    simp to_z-of_z small

pub returns-in_ok-constant-in-Int-clause-makes : goal.returns-in_ok-constant-in-Int-clause-makes
returns-in_ok-constant-in-Int-clause-makes g t c =
    let fits : SFits w128 c.in-Int.value = search rules in
    constant_made c.args.table.now c.args.path.now.items _ _ _ c.in-Int.is
    (simp to_z-of_z at c.in_ok-constant-in-Int.ensures)

-- a variable is an atom of the table
pub make_atom-requires : goal.make_atom-requires
make_atom-requires g t c =
    held_atom c.args.table.now c.args.path.now.items _ _ _ c.in-Var.is c.as_slice.ensures.value c.requires.held

pub returns-in_ok-make_atom-in-Var-clause-makes : goal.returns-in_ok-make_atom-in-Var-clause-makes
returns-in_ok-make_atom-in-Var-clause-makes g t c =
    atom_made c.args.table.now c.args.path.now.items _ _ _ _ c.in-Var.is c.as_slice.ensures.value
    c.in_ok-make_atom-in-Var.ensures

-- an opposite
pub make-requires : goal.make-requires
make-requires g t c =
    let path = c.args.path.now.items in λ κs h. (
      search (rules, the_lemmas),
      (
        h,
        over_part c.args.table.now path path _ _ _
            (part Unary.Opposite path c.in-Neg.is c.get.ensures) c.requires,
      ),
    )

pub returns-in_err-part-in-Neg-clause-makes : goal.returns-in_err-part-in-Neg-clause-makes
returns-in_err-part-in-Neg-clause-makes g t c =
    let path = c.args.path.now.items in
    part_failed g.P.PolynomialForm.map _ _ _ _ path path _ _ (part Unary.Opposite path c.in-Neg.is c.get.ensures)
    c.from_residual-in_err-part-in-Neg.ensures.1
    c.in_err-part-in-Neg.ensures.makes

pub returns-in_ok-opposite-in-Neg-clause-makes : goal.returns-in_ok-opposite-in-Neg-clause-makes
returns-in_ok-opposite-in-Neg-clause-makes g t c =
    opposite_made c.args.table.now c.args.path.now.items _ _ _ _ c.get.ensures _ c.in_ok-part-in-Neg.ensures.makes
    c.in-Neg.is
    c.in_ok-opposite-in-Neg.ensures

-- a power
pub make-requires-in-Pow : goal.make-requires-in-Pow
make-requires-in-Pow g t c =
    let path = c.args.path.now.items in λ κs h. (
      search (rules, the_lemmas),
      (
        h,
        over_part c.args.table.now path path _ _ _
            (part (Unary.Power _) path c.in-Pow.is c.get-in-Pow.ensures) c.requires,
      ),
    )

pub returns-in_err-part-in-Pow-clause-makes : goal.returns-in_err-part-in-Pow-clause-makes
returns-in_err-part-in-Pow-clause-makes g t c =
    let path = c.args.path.now.items in
    part_failed g.P.PolynomialForm.map _ _ _ _ path path _ _
    (part (Unary.Power _) path c.in-Pow.is c.get-in-Pow.ensures)
    c.from_residual-in_err-part-in-Pow.ensures.1 c.in_err-part-in-Pow.ensures.makes

pub returns-in_ok-part-in-Pow-clause-makes : goal.returns-in_ok-part-in-Pow-clause-makes
returns-in_ok-part-in-Pow-clause-makes g t c =
    let e = c.raised.ensures in
    power_made c.args.table.now c.args.path.now.items _ _ _ _ c.get-in-Pow.ensures g.P.PolynomialForm.map _ _ c.requires
    c.in_ok-part-in-Pow.ensures.makes
    c.in-Pow.is e.power e.fine e.refused

-- an image
pub make-requires-in-Hom : goal.make-requires-in-Hom
make-requires-in-Hom g t c =
    let path = c.args.path.now.items in λ κs h. (
      search (rules, the_lemmas),
      (
        h,
        over_inner c.args.table.now path _ _ _ _ (part (Unary.Image _) path c.in-Hom.is c.get-in-Hom.ensures)
            c.requires _
            c.in_ok-push-in-Hom.ensures.items,
      ),
    )

pub returns-in_err-image-in-Hom-clause-makes : goal.returns-in_err-image-in-Hom-clause-makes
returns-in_err-image-in-Hom-clause-makes g t c =
    let path = c.args.path.now.items in
    part_failed g.P.PolynomialForm.map _ _ _ _ path _ _ _ (part (Unary.Image _) path c.in-Hom.is c.get-in-Hom.ensures)
    c.from_residual-in_err-image-in-Hom.ensures.1 c.in_err-image-in-Hom.ensures.makes

pub returns-in_ok-image-in-Hom-clause-makes : goal.returns-in_ok-image-in-Hom-clause-makes
returns-in_ok-image-in-Hom-clause-makes g t c =
    image_made c.args.table.now c.args.path.now.items _ _ _ _ c.get-in-Hom.ensures _ _ c.in_ok-push-in-Hom.ensures.items
    c.in_ok-image-in-Hom.ensures.makes c.in-Hom.is

-- there are no quotients
pub unreachable-requires : goal.unreachable-requires
unreachable-requires g t c = divides _ _ _ c.in-Div.is c.requires.plain

-- a sum: its parts, what they tell, and the sum
pub make-requires-in-Add : goal.make-requires-in-Add
make-requires-in-Add g t c = λ κs h. (
  search (rules, the_lemmas),
  (h, over_left (parts Binary.Sum c.in-Add.is c.get-in-Add.ensures refl) c.requires),
)

pub returns-in_err-left-in-Add-clause-makes : goal.returns-in_err-left-in-Add-clause-makes
returns-in_err-left-in-Add-clause-makes g t c =
    left_failed g.P.PolynomialForm.map _ _ _ (parts Binary.Sum c.in-Add.is c.get-in-Add.ensures refl)
    c.from_residual-in_err-left-in-Add.ensures.1 c.in_err-left-in-Add.ensures.makes

pub make-requires-in-Add-2 : goal.make-requires-in-Add-2
make-requires-in-Add-2 g t c =
    let both = parts Binary.Sum c.in-Add.is c.get-in-Add.ensures c.get-in-Add-2.ensures in
    λ κs h. (search (rules, the_lemmas), (h, over_right_after both c.requires c.in_ok-left-in-Add.ensures.path))

pub returns-in_err-right-in-Add-clause-makes : goal.returns-in_err-right-in-Add-clause-makes
returns-in_err-right-in-Add-clause-makes g t c =
    right_failed g.P.PolynomialForm.map _ _ _
    (parts Binary.Sum c.in-Add.is c.get-in-Add.ensures c.get-in-Add-2.ensures)
    c.from_residual-in_err-right-in-Add.ensures.1 c.in_ok-left-in-Add.ensures.makes.1
    c.in_err-right-in-Add.ensures.makes

pub returns-in_ok-right-in-Add-clause-makes : goal.returns-in_ok-right-in-Add-clause-makes
returns-in_ok-right-in-Add-clause-makes g t c =
    let e = c.plus.ensures in
    binary_made Binary.Sum c.args.table.now c.requires c.in-Add.is c.get-in-Add.ensures c.get-in-Add-2.ensures
    c.in_ok-left-in-Add.ensures.path c.in_ok-left-in-Add.ensures.makes c.in_ok-right-in-Add.ensures.makes
    g.P.PolynomialForm.map _ e.sum e.fine e.refused

-- a difference: its parts, what they tell, and the difference
pub make-requires-in-Sub : goal.make-requires-in-Sub
make-requires-in-Sub g t c = λ κs h. (
  search (rules, the_lemmas),
  (h, over_left (parts Binary.Difference c.in-Sub.is c.get-in-Sub.ensures refl) c.requires),
)

pub returns-in_err-left-in-Sub-clause-makes : goal.returns-in_err-left-in-Sub-clause-makes
returns-in_err-left-in-Sub-clause-makes g t c =
    left_failed g.P.PolynomialForm.map _ _ _ (parts Binary.Difference c.in-Sub.is c.get-in-Sub.ensures refl)
    c.from_residual-in_err-left-in-Sub.ensures.1 c.in_err-left-in-Sub.ensures.makes

pub make-requires-in-Sub-2 : goal.make-requires-in-Sub-2
make-requires-in-Sub-2 g t c =
    let both = parts Binary.Difference c.in-Sub.is c.get-in-Sub.ensures c.get-in-Sub-2.ensures in
    λ κs h. (search (rules, the_lemmas), (h, over_right_after both c.requires c.in_ok-left-in-Sub.ensures.path))

pub returns-in_err-right-in-Sub-clause-makes : goal.returns-in_err-right-in-Sub-clause-makes
returns-in_err-right-in-Sub-clause-makes g t c =
    right_failed g.P.PolynomialForm.map _ _ _
    (parts Binary.Difference c.in-Sub.is c.get-in-Sub.ensures c.get-in-Sub-2.ensures)
    c.from_residual-in_err-right-in-Sub.ensures.1 c.in_ok-left-in-Sub.ensures.makes.1
    c.in_err-right-in-Sub.ensures.makes

pub returns-in_ok-right-in-Sub-clause-makes : goal.returns-in_ok-right-in-Sub-clause-makes
returns-in_ok-right-in-Sub-clause-makes g t c =
    let e = c.minus.ensures in
    binary_made Binary.Difference c.args.table.now c.requires c.in-Sub.is c.get-in-Sub.ensures c.get-in-Sub-2.ensures
    c.in_ok-left-in-Sub.ensures.path c.in_ok-left-in-Sub.ensures.makes c.in_ok-right-in-Sub.ensures.makes
    g.P.PolynomialForm.map _ e.difference e.fine e.refused

-- a product: its parts, what they tell, and the product
pub make-requires-in-Mul : goal.make-requires-in-Mul
make-requires-in-Mul g t c = λ κs h. (
  search (rules, the_lemmas),
  (h, over_left (parts Binary.Product c.in-Mul.is c.get-in-Mul.ensures refl) c.requires),
)

pub returns-in_err-left-in-Mul-clause-makes : goal.returns-in_err-left-in-Mul-clause-makes
returns-in_err-left-in-Mul-clause-makes g t c =
    left_failed g.P.PolynomialForm.map _ _ _ (parts Binary.Product c.in-Mul.is c.get-in-Mul.ensures refl)
    c.from_residual-in_err-left-in-Mul.ensures.1 c.in_err-left-in-Mul.ensures.makes

pub make-requires-in-Mul-2 : goal.make-requires-in-Mul-2
make-requires-in-Mul-2 g t c =
    let both = parts Binary.Product c.in-Mul.is c.get-in-Mul.ensures c.get-in-Mul-2.ensures in
    λ κs h. (search (rules, the_lemmas), (h, over_right_after both c.requires c.in_ok-left-in-Mul.ensures.path))

pub returns-in_err-right-in-Mul-clause-makes : goal.returns-in_err-right-in-Mul-clause-makes
returns-in_err-right-in-Mul-clause-makes g t c =
    right_failed g.P.PolynomialForm.map _ _ _
    (parts Binary.Product c.in-Mul.is c.get-in-Mul.ensures c.get-in-Mul-2.ensures)
    c.from_residual-in_err-right-in-Mul.ensures.1 c.in_ok-left-in-Mul.ensures.makes.1
    c.in_err-right-in-Mul.ensures.makes

pub returns-in_ok-right-in-Mul-clause-makes : goal.returns-in_ok-right-in-Mul-clause-makes
returns-in_ok-right-in-Mul-clause-makes g t c =
    let e = c.product.ensures in
    binary_made Binary.Product c.args.table.now c.requires c.in-Mul.is c.get-in-Mul.ensures c.get-in-Mul-2.ensures
    c.in_ok-left-in-Mul.ensures.path c.in_ok-left-in-Mul.ensures.makes c.in_ok-right-in-Mul.ensures.makes
    g.P.PolynomialForm.map _ e.product e.fine e.refused
