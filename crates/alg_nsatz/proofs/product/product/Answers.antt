use Rattle.std.proofs.Common.{sym, ◌∙◌}
use Rattle.alg_reify.proofs.ProductRules.{first_nothing, some_nothing}
use Rattle.alg_nsatz.proofs.product.product.Goals.{then-is_zero-via-then-is_zero, then-is_zero-via-else-is_zero+then-has_zero}
use Rattle.alg_nsatz.proofs.product.product.Goals as goal

-- a factor is zero
pub returns-then-is_zero-clause-product : goal.returns-then-is_zero-clause-product
returns-then-is_zero-clause-product c =
    c.zero.ensures
    ∙ elim c.then-is_zero.branch [
      | then-is_zero-via-then-is_zero w ↦
          first_nothing c.args.first c.args.rest.now (sym c.is_zero.ensures.test ∙ w.if-is_zero.true)
      | then-is_zero-via-else-is_zero+then-has_zero w ↦
          some_nothing c.args.first c.args.rest.now (sym w.has_zero.ensures.test ∙ w.if-has_zero.true)
    ]
