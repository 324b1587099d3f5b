use Rattle.std.proofs.Common.{ap, sym, ◌∙◌, length, arith}
use Rattle.alg_reader.proofs.Failing.{takes_less}
use Rattle.alg_reader.specs.Forms.{Sum, Product, Unary, Power, Leaf}
use Rattle.alg_tokens.specs.declared.token.TokenKind.TheVariants as kinds
use Rattle.alg_tokens.specs.declared.token.Sign.TheVariants as signs
use Rattle.alg_reader.proofs.OneToken.{taken, number_taken}
use Rattle.alg_reader.proofs.Powers.{takes_minus, fails_minus, takes_unsigned, fails_unsigned, takes_base, takes_power, fails_base, fails_exponent}
use Rattle.alg_reader.proofs.Leaves.{takes_inside, fails_paren, fails_sum_inside, fails_close, takes_number, takes_variable, takes_image, fails_image, group_read}
use Rattle.alg_reader.proofs.Failing.{passed_term, passed_inside}
use Rattle.alg_reader.proofs.Chains.{opposites-append}
use Rattle.alg_reader.specs.Parts.{opposites_part}
use Rattle.alg_reader.proofs.Held.{literal_held, variable_held, opposites_held, binary_is, image_is, power_is}
use Rattle.alg_reader.proofs.Turns.{sum_begins, sum_steps, sum_ends, sum_fails, sum_fails_first, product_begins, product_steps, product_ends, product_fails, product_fails_first}
use Rattle.alg_reader.proofs.cursor.Cursor.+terms.Goals as goal

pub sum-returns-in_err-sum : goal.sum-returns-in_err-sum
sum-returns-in_err-sum t c = passed_term Sum _ _ c.from_residual.result c.in_err-sum.field-0.0
    c.from_residual.ensures.1 (sum_fails_first _ _ c.in_err-sum.ensures)

pub sum-turns-init : goal.sum-turns-init
sum-turns-init t c =
    let (u, e, p) = c.in_ok-sum.ensures in
    (u, e, sum_begins _ _ _ p, takes_less _ _ _ _ p)

pub sum-turns-preserved : goal.sum-turns-preserved
sum-turns-preserved t c =
    let (left, held_left, continues, shorter) = c.turns.invariant in
    let (right, held_right, p) = c.in_ok-right.ensures in
    let less = takes_less _ _ _ _ p in
    let one = ap length c.take-op.ensures in (
      _,
      binary_is c.take-op.result _ _ _ left right c.in_ok-sum-2.ensures held_left held_right,
      sum_steps _ _ _ _ _ _ c.take-op.result c.turns-test.ensures c.take-op.ensures continues p,
      omega arith,
    )

pub sum-returns-in_err-right : goal.sum-returns-in_err-right
sum-returns-in_err-right t c =
    passed_term Sum _ _ c.from_residual-in_err-right.result c.in_err-right.field-0.0
    c.from_residual-in_err-right.ensures.1
    (sum_fails _ _ _ _ c.take-op.result _ c.turns-test.ensures c.take-op.ensures c.turns.invariant.2
    c.in_err-right.ensures)

pub sum-returns : goal.sum-returns
sum-returns t c = (
  c.turns.invariant.0,
  c.turns.invariant.1,
  sum_ends _ _ _ c.turns-test.ensures c.turns.invariant.2,
)

pub product-returns-in_err-product : goal.product-returns-in_err-product
product-returns-in_err-product t c = passed_term Product _ _ c.from_residual.result
    c.in_err-product.field-0.0 c.from_residual.ensures.1 (product_fails_first _ _ c.in_err-product.ensures)

pub product-turns-init : goal.product-turns-init
product-turns-init t c =
    let (u, e, p) = c.in_ok-product.ensures in
    (u, e, product_begins _ _ _ p, takes_less _ _ _ _ p)

pub product-turns-preserved : goal.product-turns-preserved
product-turns-preserved t c =
    let (left, held_left, continues, shorter) = c.turns.invariant in
    let (right, held_right, p) = c.in_ok-right.ensures in
    let less = takes_less _ _ _ _ p in
    let one = ap length c.take-op.ensures in (
      _,
      binary_is c.take-op.result _ _ _ left right c.in_ok-product-2.ensures held_left held_right,
      product_steps _ _ _ _ _ _ c.take-op.result c.turns-test.ensures c.take-op.ensures continues p,
      omega arith,
    )

pub product-returns-in_err-right : goal.product-returns-in_err-right
product-returns-in_err-right t c =
    passed_term Product _ _ c.from_residual-in_err-right.result c.in_err-right.field-0.0
    c.from_residual-in_err-right.ensures.1
    (product_fails _ _ _ _ c.take-op.result _ c.turns-test.ensures c.take-op.ensures c.turns.invariant.2
    c.in_err-right.ensures)

pub product-returns : goal.product-returns
product-returns t c = (
  c.turns.invariant.0,
  c.turns.invariant.1,
  product_ends _ _ _ c.turns-test.ensures c.turns.invariant.2,
)

pub power-returns-in_err-base : goal.power-returns-in_err-base
power-returns-in_err-base t c = passed_term Power _ _ c.from_residual.result c.in_err-base.field-0.0
    c.from_residual.ensures.1 (fails_base _ _ c.in_err-base.ensures)

pub power-returns-then-not-sees : goal.power-returns-then-not-sees
power-returns-then-not-sees t c =
    let (u, e, p) = c.in_ok-base.ensures in
    (u, e, takes_base _ _ _ p c.if-not-sees.ensures)

pub unary-returns-in_err-power : goal.unary-returns-in_err-power
unary-returns-in_err-power t c = passed_term Unary _ _ c.from_residual-in_err-power.result
    c.in_err-power.field-0.0 c.from_residual-in_err-power.ensures.1 (c.signs.invariant.1 _
    (fails_unsigned _ _ c.signs-test.ensures c.in_err-power.ensures))

pub unary-returns : goal.unary-returns
unary-returns t c =
    let (u, e, p) = c.in_ok-power.ensures in (
      _,
      c.in_ok-opposites.ensures ∙ ap (λ heads. opposites_part heads c.in_ok-power.power) c.deref.ensures.value
          ∙ ap (opposites_part c.signs.heads.items) e ∙ sym (opposites_held c.signs.heads.items u),
      c.signs.invariant.0 _ _ (takes_unsigned _ _ _ c.signs-test.ensures p),
    )

pub unary-signs-preserved : goal.unary-signs-preserved
unary-signs-preserved t c =
    let m = taken (kinds.Sign signs.Minus) _ _ c.take-minus.result c.signs-test.ensures c.take-minus.ensures in (
      λ rest u p. let h = c.in_ok-push.ensures in rw (
        h.items,
        opposites-append,
      ) (c.signs.invariant.0 _ _ (takes_minus _ _ _ c.take-minus.result _ m p)),
      λ e k. c.signs.invariant.1 _ (fails_minus _ _ c.take-minus.result _ c.signs-test.ensures m k),
      let one = ap length c.take-minus.ensures in omega arith,
    )

pub power-returns-in_err-exponent : goal.power-returns-in_err-exponent
power-returns-in_err-exponent t c =
    let caret = taken (kinds.Sign signs.Caret) _ _ c.take-caret.result c.if-not-sees.ensures c.take-caret.ensures in
    passed_term Power _ _ c.from_residual-in_err-exponent.result c.in_err-exponent.field-0.0
    c.from_residual-in_err-exponent.ensures.1
    (fails_exponent _ _ _ _ c.take-caret.result _ c.in_ok-base.ensures.2 c.if-not-sees.ensures caret
    c.in_err-exponent.ensures)

pub power-returns : goal.power-returns
power-returns t c =
    let caret = taken (kinds.Sign signs.Caret) _ _ c.take-caret.result c.if-not-sees.ensures c.take-caret.ensures in
    let (u, e, p) = c.in_ok-base.ensures in (
      _,
      power_is c.take-caret.result _ _ c.in_ok-exponent.exponent u c.in_ok-power_of.ensures e,
      takes_power _ _ _ _ _ c.take-caret.result _ p caret c.in_ok-exponent.ensures,
    )

pub leaf-returns-then-sees_number : goal.leaf-returns-then-sees_number
leaf-returns-then-sees_number t c =
    let number = number_taken _ _ c.take-number.result c.if-sees_number.ensures c.take-number.ensures in
    (_, c.literal.ensures ∙ literal_held c.take-number.result, takes_number _ _ _ number)

pub leaf-returns-then-not-sees : goal.leaf-returns-then-not-sees
leaf-returns-then-not-sees t c =
    let name = taken kinds.Name _ _ c.take-name.result c.if-sees.ensures c.take-name.ensures in
    (_, c.variable.ensures ∙ variable_held c.take-name.result, takes_variable _ _ _ name c.if-not-sees.ensures)

pub leaf-returns-in_err-of : goal.leaf-returns-in_err-of
leaf-returns-in_err-of t c =
    let name = taken kinds.Name _ _ c.take-name.result c.if-sees.ensures c.take-name.ensures in
    passed_term Leaf _ _ c.from_residual.result c.in_err-of.field-0.0 c.from_residual.ensures.1
    (fails_image _ _ c.take-name.result _ c.if-sees_number.ensures c.if-sees.ensures name c.if-not-sees.ensures
    c.in_err-of.ensures)

pub leaf-returns-then-sees : goal.leaf-returns-then-sees
leaf-returns-then-sees t c =
    let name = taken kinds.Name _ _ c.take-name.result c.if-sees.ensures c.take-name.ensures in
    let (u, e, p) = c.in_ok-of.ensures in (
      _,
      image_is c.take-name.result _ _ u c.in_ok-image.ensures e,
      takes_image _ _ _ c.take-name.result _ name p,
    )

pub leaf-returns : goal.leaf-returns
leaf-returns t c = group_read _ _ c.inside-2.result c.if-sees_number.ensures c.if-sees.ensures c.inside-2.ensures

pub inside-returns-in_err-_paren : goal.inside-returns-in_err-_paren
inside-returns-in_err-_paren t c = passed_inside _ _ c.from_residual.result c.in_err-_paren.field-0.0
    c.from_residual.ensures.1 (fails_paren _ _ c.in_err-_paren.ensures)

pub inside-returns-in_err-sum : goal.inside-returns-in_err-sum
inside-returns-in_err-sum t c =
    passed_inside _ _ c.from_residual-in_err-sum.result c.in_err-sum.field-0.0 c.from_residual-in_err-sum.ensures.1
    (fails_sum_inside _ _ _ _ c.in_ok-_paren.ensures c.in_err-sum.ensures)

pub inside-returns-in_err-_close : goal.inside-returns-in_err-_close
inside-returns-in_err-_close t c =
    passed_inside _ _ c.from_residual-in_err-_close.result c.in_err-_close.field-0.0
    c.from_residual-in_err-_close.ensures.1
    (fails_close _ _ _ _ _ _ c.in_ok-_paren.ensures c.in_ok-sum.ensures.2 c.in_err-_close.ensures)

pub inside-returns : goal.inside-returns
inside-returns t c =
    let (u, e, p) = c.in_ok-sum.ensures in
    (u, e, takes_inside _ _ _ _ _ _ _ c.in_ok-_paren.ensures p c.in_ok-_close.ensures)
