-- One after the other.
use Rattle.std.proofs.Common.{[], ◌∷◌, ◌++◌, refl, ap, ◌∙◌}
use Rattle.alg_tokens.specs.declared.token.Sign.TheVariants as signs
use Rattle.alg_reader.specs.Forms as rules
use Rattle.alg_reader.specs.Forms.{many}
use Rattle.alg_reader.specs.AnswerMeaning.{after, numeral_in}
use Rattle.alg_reader.proofs.Failing.{passed_kept}
use Rattle.alg_reader.proofs.AnswerChoices.{constant_again}
use Rattle.alg_reader.proofs.Lists.{next_of, gathers_begins, gathers_more, gathers_fails, gathers_ends}
use Rattle.alg_reader.proofs.cursor.Cursor.more_constants.Goals as goal

pub constants-init : goal.constants-init
constants-init c = gathers_begins signs.Comma rules.Constant numeral_in _ (c.args.first ∷ []) _
    (c.in_ok-push.ensures.items
    ∙ ap (λ xs. xs ++ c.args.first ∷ []) c.new-constants.ensures.items)

pub constants-preserved : goal.constants-preserved
constants-preserved c = gathers_more signs.Comma rules.Constant numeral_in constant_again _ _ _ c.take-comma.result
    (c.args.first ∷ [])
    c.constants.constants.items c.constants-test.ensures c.take-comma.ensures c.constants.invariant _ _ _ _
    c.in_ok-constant.ensures refl
    (c.in_ok-push-2.ensures.items ∙ ap (λ n. c.constants.constants.items ++ n ∷ []) c.numeral_of.ensures)

pub returns-in_err-constant : goal.returns-in_err-constant
returns-in_err-constant c =
    passed_kept (many (next_of signs.Comma rules.Constant)) (λ v. c.args.first ∷ after numeral_in v) (λ v. v) _ _
    c.from_residual-in_err-constant.result c.in_err-constant.field-0.0 c.from_residual-in_err-constant.ensures.1
    (gathers_fails signs.Comma rules.Constant numeral_in constant_again _ _ _ c.take-comma.result
    (c.args.first ∷ []) c.constants.constants.items
    c.constants-test.ensures c.take-comma.ensures c.constants.invariant _ c.in_err-constant.ensures)

pub returns : goal.returns
returns c =
    let (v, all, p) = gathers_ends signs.Comma rules.Constant numeral_in constant_again _ _ (c.args.first ∷ [])
    c.constants.constants.items
    c.constants-test.ensures c.constants.invariant in
    (v, c.from_vec.ensures ∙ all, p)
