use Rattle.std.proofs.Common.{◌∷◌, ◌++◌, [], ap, ◌∙◌}
use Rattle.alg_tokens.specs.declared.token.TokenKind.TheVariants as kinds
use Rattle.alg_tokens.specs.declared.token.Sign.TheVariants as signs
use Rattle.alg_reader.specs.Forms.{rule, Use}
use Rattle.alg_reader.specs.TermMeaning.{used}
use Rattle.alg_reader.specs.Reading.{behind}
use Rattle.alg_reader.proofs.Failing.{passed_kept}
use Rattle.alg_reader.proofs.OneToken.{taken}
use Rattle.alg_reader.proofs.Options.{takes_alone, takes_under, fails_name, fails_inner, fails_closing, behind_alone, behind_more}
use Rattle.alg_reader.proofs.cursor.Cursor.+used.Goals as goal

pub returns-in_err-name : goal.returns-in_err-name
returns-in_err-name t c = passed_kept (rule Use) (behind c.args.before.items) used _ _ c.from_residual.result
    c.in_err-name.field-0.0 c.from_residual.ensures.1 (fails_name _ _ c.in_err-name.ensures)

pub returns-then-not-sees : goal.returns-then-not-sees
returns-then-not-sees t c = (
  _,
  behind_alone c.args.before.items _ _ _ c.from_vec.ensures c.span_of.ensures,
  takes_alone _ _ _ c.in_ok-name.ensures c.if-not-sees.ensures,
)

pub returns-in_err-used : goal.returns-in_err-used
returns-in_err-used t c =
    let paren = taken (kinds.Sign signs.ParenLeft) _ _ c.take-paren.result c.if-not-sees.ensures c.take-paren.ensures in
    passed_kept (rule Use) (behind c.args.before.items) used _ _ c.from_residual-in_err-used.result
    c.in_err-used.field-0.0 c.from_residual-in_err-used.ensures.1
    (fails_inner _ _ _ _ _ _ c.in_ok-name.ensures c.if-not-sees.ensures paren c.in_err-used.ensures)

pub returns-in_err-_close : goal.returns-in_err-_close
returns-in_err-_close t c =
    let paren = taken (kinds.Sign signs.ParenLeft) _ _ c.take-paren.result c.if-not-sees.ensures c.take-paren.ensures in
    passed_kept (rule Use) (behind c.args.before.items) used _ _ c.from_residual-in_err-_close.result
    c.in_err-_close.field-0.0 c.from_residual-in_err-_close.ensures.1
    (fails_closing _ _ _ _ _ _ _ _ c.in_ok-name.ensures c.if-not-sees.ensures paren c.in_ok-used.ensures.2
    c.in_err-_close.ensures)

pub returns : goal.returns
returns t c =
    let paren = taken (kinds.Sign signs.ParenLeft) _ _ c.take-paren.result c.if-not-sees.ensures c.take-paren.ensures in
    let (u, e, p) = c.in_ok-used.ensures in
    let longer = c.in_ok-push.ensures.items ∙ ap (λ n. c.args.before.items ++ n ∷ []) c.span_of-2.ensures in (
      _,
      e ∙ behind_more c.args.before.items _ _ u longer,
      takes_under _ _ _ _ _ _ _ _ u c.in_ok-name.ensures paren p c.in_ok-_close.ensures,
    )
