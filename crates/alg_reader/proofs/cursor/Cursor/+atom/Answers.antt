-- A name, or a name before an atom in parentheses.
use Rattle.alg_tokens.specs.declared.token.TokenKind.TheVariants as kinds
use Rattle.alg_tokens.specs.declared.token.Sign.TheVariants as signs
use Rattle.alg_reader.specs.Forms as rules
use Rattle.alg_reader.specs.Forms.{rule}
use Rattle.alg_reader.specs.Grammar.{grammar}
use Rattle.alg_reader.specs.Meaning.{act}
use Rattle.alg_reader.specs.TermMeaning.{factor}
use Rattle.alg_reader.proofs.ReadRows.{takes_rule}
use Rattle.alg_reader.proofs.Failing.{passed, fails_rule}
use Rattle.alg_reader.proofs.OneToken.{taken}
use Rattle.alg_reader.proofs.Nested.{nested_alone, nested_no_name, nested_inner, nested_unclosed, nested_under}
use Rattle.alg_reader.proofs.AnswerChoices.{atom_then_close}
use Rattle.alg_reader.proofs.cursor.Cursor.+atom.Goals as goal

pub returns-in_err-name : goal.returns-in_err-name
unfolding grammar
returns-in_err-name t c = passed (rule rules.Atom) factor _ _ c.from_residual.result c.in_err-name.field-0.0
    c.from_residual.ensures.1 (fails_rule rules.Atom _ _ (nested_no_name rules.Atom _ _ c.in_err-name.ensures))

pub returns-then-not-sees : goal.returns-then-not-sees
unfolding grammar act
returns-then-not-sees t c = rw (c.factor_of.ensures, c.span_of.ensures) (takes_rule rules.Atom _ _ _
    (nested_alone rules.Atom _ _ _ c.in_ok-name.ensures c.if-not-sees.ensures))

pub returns-in_err-inner : goal.returns-in_err-inner
unfolding grammar
returns-in_err-inner t c =
    let paren = taken (kinds.Sign signs.ParenLeft) _ _ c.take-paren.result c.if-not-sees.ensures c.take-paren.ensures in
    passed (rule rules.Atom) factor _ _ c.from_residual-in_err-inner.result c.in_err-inner.field-0.0
    c.from_residual-in_err-inner.ensures.1 (fails_rule rules.Atom _ _ (nested_inner rules.Atom _ atom_then_close _ _ _ _
    c.in_ok-name.ensures c.if-not-sees.ensures paren _ c.in_err-inner.ensures))

pub returns-in_err-_close : goal.returns-in_err-_close
unfolding grammar
returns-in_err-_close t c =
    let paren = taken (kinds.Sign signs.ParenLeft) _ _ c.take-paren.result c.if-not-sees.ensures c.take-paren.ensures in
    passed (rule rules.Atom) factor _ _ c.from_residual-in_err-_close.result c.in_err-_close.field-0.0
    c.from_residual-in_err-_close.ensures.1 (fails_rule rules.Atom _ _
    (nested_unclosed rules.Atom _ atom_then_close _ _ _ _
    c.in_ok-name.ensures c.if-not-sees.ensures paren _ _ _ c.in_ok-inner.ensures c.in_err-_close.ensures))

pub returns : goal.returns
unfolding grammar act
returns t c =
    let paren = taken (kinds.Sign signs.ParenLeft) _ _ c.take-paren.result c.if-not-sees.ensures c.take-paren.ensures in
    rw (c.factor_of-2.ensures, c.span_of-2.ensures, c.in_ok-of.ensures) (takes_rule rules.Atom _ _ _ (nested_under
    rules.Atom _ atom_then_close _ _ _ _ c.in_ok-name.ensures c.if-not-sees.ensures paren _ _ _ _ c.in_ok-inner.ensures
    c.in_ok-_close.ensures))
