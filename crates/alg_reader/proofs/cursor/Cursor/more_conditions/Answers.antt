-- One condition after the other.
use Rattle.std.proofs.Common.{◌≡◌, List, [], ◌∷◌, ◌++◌, refl, ap, ◌∙◌, subst}
use Rattle.alg_tokens.specs.declared.token.Sign.TheVariants as signs
use Rattle.alg_reader.specs.declared.raw.RawAnswer.TheVariants as answers
use Rattle.alg_reader.specs.declared.raw.RawTerm.{RawTerm}
use Rattle.alg_reader.specs.Forms as rules
use Rattle.alg_reader.specs.Forms.{many}
use Rattle.alg_reader.specs.TermMeaning.{term}
use Rattle.alg_reader.specs.AnswerMeaning.{after, term_in}
use Rattle.alg_reader.specs.Parts.{held_answer}
use Rattle.alg_reader.proofs.Failing.{passed_kept}
use Rattle.alg_reader.proofs.AnswerChoices.{condition_again}
use Rattle.alg_reader.proofs.HeldAnswers.{one_held, held_more, conditions_held}
use Rattle.alg_reader.proofs.Lists.{next_of, gathers_begins, gathers_more, gathers_fails, gathers_ends}
use Rattle.alg_reader.proofs.cursor.Cursor.more_conditions.Goals as goal

pub conditions-init : goal.conditions-init
conditions-init c = λ t e. (
  t ∷ [],
  one_held c.args.first t _ e (c.in_ok-push.ensures.items
      ∙ ap (λ xs. xs ++ c.args.first.term ∷ []) c.new-conditions.ensures.items),
  gathers_begins signs.Comma rules.Condition term_in _ (t ∷ []) (t ∷ []) refl,
)

pub conditions-preserved : goal.conditions-preserved
conditions-preserved c = λ t e.
    let (ts, held, gathers) = c.conditions.invariant t e in
    let (u, is, p) = c.in_ok-condition.ensures in (
      ts ++ u ∷ [],
      rw c.or-too_deep.ensures (held_more _ _ _ c.in_ok-condition.condition ts u held is c.in_ok-push-2.ensures.items),
      gathers_more signs.Comma rules.Condition term_in condition_again _ _ _ c.take-comma.result (t ∷ []) ts
          c.conditions-test.ensures c.take-comma.ensures gathers _ (term u) u (ts ++ u ∷ []) p refl refl,
    )

pub returns-in_err-condition : goal.returns-in_err-condition
returns-in_err-condition c = λ t e.
    let (ts, held, gathers) = c.conditions.invariant t e in
    passed_kept (many (next_of signs.Comma rules.Condition)) (λ v. held_answer (answers.Proved (t ∷ after term_in v)))
    (λ v. v) _ _ c.from_residual-in_err-condition.result c.in_err-condition.field-0.0
    c.from_residual-in_err-condition.ensures.1
    (gathers_fails signs.Comma rules.Condition term_in condition_again _ _ _ c.take-comma.result (t ∷ []) ts
    c.conditions-test.ensures c.take-comma.ensures gathers _ c.in_err-condition.ensures)

pub returns : goal.returns
returns c = λ t e.
    let (ts, held, gathers) = c.conditions.invariant t e in
    let (v, all, p) = gathers_ends signs.Comma rules.Condition term_in condition_again _ _ (t ∷ []) ts
    c.conditions-test.ensures gathers in
    let P : List RawTerm → Type 0 = λ xs. record {
      answer = answers.Proved c.from_vec-conditions.result;
      too_deep =
          c.conditions.too_deep;
    }
    ≡ held_answer (answers.Proved xs) in
    (v, subst P all (rw c.from_vec-conditions.ensures (conditions_held _ _ ts held)), p)
