use Rattle.std.proofs.Common.{rules, arith, ◌≡◌, ◌<◌, ℕ, vec_len, List, [], ◌∷◌, ◌++◌, length, refl, sym, ap, subst, ◌∙◌, SFits, to_z-of_z}
use Rattle.std.specs.Int.{w128}
use Rattle.std.specs.declared.result.Result.TheVariants.{Ok}
use Rattle.std.proofs.lemmas.List.{length-append}
use Rattle.alg_terms.specs.declared.term.Term.TheViews.{the_lemmas}
use Rattle.alg_terms.proofs.Views.{Unary}
use Rattle.alg_reify.proofs.Parts.{literal, held_atom}
use Rattle.alg_reify.specs.MakingFractions.{IsFractionOver, IsMade}
use Rattle.alg_reify.proofs.FractionLeaves.{literal_made, variable_made}
use Rattle.alg_reify.proofs.FractionParts.{part}
use Rattle.alg_reify.proofs.FractionMade.{unpushed, handed_on, part_over, part_failed, part_made, left_over, right_over, left_failed, right_failed, both_made}
use Rattle.alg_reify.proofs.fractions.+make.Goals as goal

-- a literal is a constant within the limits
pub constant-requires : goal.constant-requires
constant-requires g t c =
    let small = literal c.args.term.now c.in-Int.value c.in-Int.is c.requires.literals in
    let fits : SFits w128 c.in-Int.value = search rules in
    simp to_z-of_z small

pub returns-in_ok-constant-in-Int : goal.returns-in_ok-constant-in-Int
returns-in_ok-constant-in-Int g t c =
    let fits : SFits w128 c.in-Int.value = search rules in
    literal_made g.F.FractionForm.fraction c.args.char0 c.args.table.now c.args.path.now.items
    c.args.conditions.now.items c.args.term.now _ _ c.in-Int.is (simp to_z-of_z at c.in_ok-constant-in-Int.ensures)

-- a variable is an atom of the table
pub atom_number-requires : goal.atom_number-requires
atom_number-requires g t c =
    held_atom c.args.table.now c.args.path.now.items _ _ _ c.in-Var.is c.as_slice.ensures.value c.requires.held

pub returns-in_ok-atom-in-Var : goal.returns-in_ok-atom-in-Var
returns-in_ok-atom-in-Var g t c =
    variable_made g.F.FractionForm.fraction c.args.char0 c.args.table.now c.args.path.now.items
    c.args.conditions.now.items c.args.term.now _ _ _ c.in-Var.is c.as_slice.ensures.value _
    c.in_ok-number-in-Var.ensures c.in_ok-atom-in-Var.ensures

-- an opposite
pub make-requires : goal.make-requires
make-requires g t c =
    let path = c.args.path.now.items in λ κs h. (
      search (rules, the_lemmas),
      (
        h,
        part_over g.F.FractionForm.fraction c.args.char0 c.args.table.now path c.args.term.now path _ _ _
            (part c.args.table.now path Unary.Opposite c.in-Neg.is c.get.ensures) c.requires,
      ),
    )

pub returns-in_err-part-in-Neg : goal.returns-in_err-part-in-Neg
returns-in_err-part-in-Neg g t c =
    let path = c.args.path.now.items in
    handed_on g.F.FractionForm.fraction c.args.char0 c.args.table.now path c.args.term.now _ _ _ _ _
    c.from_residual-in_err-part-in-Neg.ensures.1
    (part_failed g.F.FractionForm.fraction c.args.char0 c.args.table.now path c.args.term.now path _ _ _
    (part c.args.table.now path Unary.Opposite c.in-Neg.is c.get.ensures) c.requires _ c.in_err-part-in-Neg.ensures)

pub returns-in_ok-opposite-in-Neg : goal.returns-in_ok-opposite-in-Neg
returns-in_ok-opposite-in-Neg g t c =
    let path = c.args.path.now.items in
    let made = c.in_ok-part-in-Neg.ensures in
    part_made g.F.FractionForm.fraction c.args.char0 c.args.table.now path c.args.term.now path _ _ _
    (part c.args.table.now path Unary.Opposite c.in-Neg.is c.get.ensures) c.requires _ _ _ _ _
    (Ok c.in_ok-opposite-in-Neg.field-0) made (c.in_ok-opposite-in-Neg.ensures, refl) made.back

-- a power
pub make-requires-in-Pow : goal.make-requires-in-Pow
make-requires-in-Pow g t c =
    let path = c.args.path.now.items in λ κs h. (
      search (rules, the_lemmas),
      (
        h,
        part_over g.F.FractionForm.fraction c.args.char0 c.args.table.now path c.args.term.now path _ _ _
            (part c.args.table.now path (Unary.Power _) c.in-Pow.is c.get-in-Pow.ensures) c.requires,
      ),
    )

pub returns-in_err-part-in-Pow : goal.returns-in_err-part-in-Pow
returns-in_err-part-in-Pow g t c =
    let path = c.args.path.now.items in
    handed_on g.F.FractionForm.fraction c.args.char0 c.args.table.now path c.args.term.now _ _ _ _ _
    c.from_residual-in_err-part-in-Pow.ensures.1
    (part_failed g.F.FractionForm.fraction c.args.char0 c.args.table.now path c.args.term.now path _ _ _
    (part c.args.table.now path (Unary.Power _) c.in-Pow.is c.get-in-Pow.ensures) c.requires _
    c.in_err-part-in-Pow.ensures)

pub returns-in_ok-part-in-Pow : goal.returns-in_ok-part-in-Pow
returns-in_ok-part-in-Pow g t c =
    let path = c.args.path.now.items in
    let made = c.in_ok-part-in-Pow.ensures in
    part_made g.F.FractionForm.fraction c.args.char0 c.args.table.now path c.args.term.now path _ _ _
    (part c.args.table.now path (Unary.Power _) c.in-Pow.is c.get-in-Pow.ensures) c.requires _ _ _ _ _ c.ended.result
    made
    (c.ended.ensures _ _ c.power.ensures) made.back

-- an image
pub make-requires-in-Hom : goal.make-requires-in-Hom
make-requires-in-Hom g t c =
    let path = c.args.path.now.items in
    let P : List ℕ → Type 0 = λ x. IsFractionOver c.args.table.now x c.get-in-Hom.result.now in λ κs h. (
      search (rules, the_lemmas),
      (
        h,
        subst P (sym c.in_ok-push-in-Hom.ensures.items)
            (part_over g.F.FractionForm.fraction c.args.char0 c.args.table.now path c.args.term.now _ _ _ _
            (part c.args.table.now path (Unary.Image _) c.in-Hom.is c.get-in-Hom.ensures) c.requires),
      ),
    )

pub returns-in_err-image-in-Hom : goal.returns-in_err-image-in-Hom
returns-in_err-image-in-Hom g t c =
    let path = c.args.path.now.items in
    handed_on g.F.FractionForm.fraction c.args.char0 c.args.table.now path c.args.term.now _ _ _ _ _
    c.from_residual-in_err-image-in-Hom.ensures.1
    (part_failed g.F.FractionForm.fraction c.args.char0 c.args.table.now path c.args.term.now _ _ _ _
    (part c.args.table.now path (Unary.Image _) c.in-Hom.is c.get-in-Hom.ensures) c.requires _
    c.in_err-image-in-Hom.ensures)

pub returns-in_ok-image-in-Hom : goal.returns-in_ok-image-in-Hom
returns-in_ok-image-in-Hom g t c =
    let path = c.args.path.now.items in
    let image = c.in_ok-image-in-Hom in
    let Q : List ℕ → Type 0 = λ x. IsMade g.F.FractionForm.fraction c.args.char0 c.args.table.now x
    c.make-in-Hom.new.path.items
    c.args.conditions.now.items c.make-in-Hom.new.conditions.items c.get-in-Hom.result.now image.image in
    let made = subst Q c.in_ok-push-in-Hom.ensures.items image.ensures in
    let pushed : c.make-in-Hom.new.path.items ≡ path ++ c.in-Hom.morphism ∷ [] =
    image.ensures.back ∙ c.in_ok-push-in-Hom.ensures.items in
    let one = length-append path (c.in-Hom.morphism ∷ []) in
    let some : 0 < vec_len c.make-in-Hom.new.path = omega (arith, ap length pushed, one) in
    let back : c.pop.new.self.items ≡ path = unpushed path c.pop.new.self.items c.in-Hom.morphism c.pop.result
    (sym pushed ∙ c.pop.ensures.items) (c.pop.ensures.variant.1 some) in
    part_made g.F.FractionForm.fraction c.args.char0 c.args.table.now path c.args.term.now _ _ _ _
    (part c.args.table.now path (Unary.Image _) c.in-Hom.is c.get-in-Hom.ensures) c.requires _ _ _ _ _
    (Ok image.image) made (refl, refl) back

-- two parts
pub make-requires-in-Add : goal.make-requires-in-Add
make-requires-in-Add g t c = λ κs h. (
  search (rules, the_lemmas),
  (
    h,
    left_over g.F.FractionForm.fraction c.args.char0 c.args.table.now _ _ _ _ _ _ c.in-Add.is c.get-in-Add.ensures
        refl c.requires,
  ),
)

pub returns-in_err-left-in-Add : goal.returns-in_err-left-in-Add
returns-in_err-left-in-Add g t c =
    handed_on g.F.FractionForm.fraction c.args.char0 c.args.table.now _ _ _ _ _ _ _
    c.from_residual-in_err-left-in-Add.ensures.1
    (left_failed g.F.FractionForm.fraction c.args.char0 c.args.table.now _ _ _ _ _ _ c.in-Add.is c.get-in-Add.ensures
    refl c.requires _
    c.in_err-left-in-Add.ensures)

pub make-requires-in-Add-2 : goal.make-requires-in-Add-2
make-requires-in-Add-2 g t c = λ κs h. (
  search (rules, the_lemmas),
  (
    h,
    right_over g.F.FractionForm.fraction c.args.char0 c.args.table.now _ _ _ _ _ _ c.in-Add.is c.get-in-Add.ensures
        c.get-in-Add-2.ensures
        c.requires _ c.in_ok-left-in-Add.ensures.back,
  ),
)

pub returns-in_err-right-in-Add : goal.returns-in_err-right-in-Add
returns-in_err-right-in-Add g t c =
    handed_on g.F.FractionForm.fraction c.args.char0 c.args.table.now _ _ _ _ _ _ _
    c.from_residual-in_err-right-in-Add.ensures.1
    (right_failed g.F.FractionForm.fraction c.args.char0 c.args.table.now _ _ _ _ _ _ c.in-Add.is
    c.get-in-Add.ensures c.get-in-Add-2.ensures
    c.requires c.in_ok-left-in-Add.ensures.fine _ c.in_err-right-in-Add.ensures)

pub returns-in_ok-right-in-Add : goal.returns-in_ok-right-in-Add
returns-in_ok-right-in-Add g t c =
    both_made g.F.FractionForm.fraction c.args.char0 c.args.table.now _ _ _ _ _ _ c.in-Add.is c.get-in-Add.ensures
    c.get-in-Add-2.ensures
    c.requires _ _ _ _ _ _ _ _ c.combined.result c.in_ok-left-in-Add.ensures c.in_ok-right-in-Add.ensures
    c.combined.ensures
