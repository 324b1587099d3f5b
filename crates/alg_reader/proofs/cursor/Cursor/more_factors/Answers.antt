-- One after the other.
use Rattle.std.proofs.Common.{[], ◌∷◌, ◌++◌, refl, ap, ◌∙◌}
use Rattle.alg_tokens.specs.declared.token.Sign.TheVariants as signs
use Rattle.alg_reader.specs.Forms as rules
use Rattle.alg_reader.specs.Forms.{many}
use Rattle.alg_reader.specs.AnswerMeaning.{after, factor_in}
use Rattle.alg_reader.proofs.Failing.{passed_kept}
use Rattle.alg_reader.proofs.AnswerChoices.{star_apart}
use Rattle.alg_reader.proofs.Lists.{next_of, gathers_begins, gathers_more, gathers_fails, gathers_ends}
use Rattle.alg_reader.proofs.cursor.Cursor.more_factors.Goals as goal

pub factors-init : goal.factors-init
factors-init c = gathers_begins signs.Star rules.Factor factor_in _ (c.args.first ∷ []) _ (c.in_ok-push.ensures.items
    ∙ ap (λ xs. xs ++ c.args.first ∷ []) c.new-factors.ensures.items)

pub factors-preserved : goal.factors-preserved
factors-preserved c = gathers_more signs.Star rules.Factor factor_in star_apart _ _ _ c.take-star.result
    (c.args.first ∷ [])
    c.factors.factors.items c.factors-test.ensures c.take-star.ensures c.factors.invariant _ _ _ _
    c.in_ok-factor.ensures refl c.in_ok-push-2.ensures.items

pub returns-in_err-factor : goal.returns-in_err-factor
returns-in_err-factor c =
    passed_kept (many (next_of signs.Star rules.Factor)) (λ v. c.args.first ∷ after factor_in v) (λ v. v) _ _
    c.from_residual-in_err-factor.result c.in_err-factor.field-0.0 c.from_residual-in_err-factor.ensures.1
    (gathers_fails signs.Star rules.Factor factor_in star_apart _ _ _ c.take-star.result (c.args.first ∷ [])
    c.factors.factors.items
    c.factors-test.ensures c.take-star.ensures c.factors.invariant _ c.in_err-factor.ensures)

pub returns : goal.returns
returns c =
    let (v, all, p) = gathers_ends signs.Star rules.Factor factor_in star_apart _ _ (c.args.first ∷ [])
    c.factors.factors.items
    c.factors-test.ensures c.factors.invariant in
    (v, c.from_vec.ensures ∙ all, p)
