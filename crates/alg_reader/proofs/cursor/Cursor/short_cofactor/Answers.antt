-- A monomial and a comma, or nothing.
use Rattle.std.proofs.Common.{List, refl, arith}
use Rattle.std.proofs.lemmas.Bool.Decides.{nat_tests}
use Rattle.alg_tokens.specs.declared.token.Token.{Token}
use Rattle.alg_tokens.specs.declared.token.TokenKind.TheVariants as kinds
use Rattle.alg_tokens.specs.declared.token.Sign.TheVariants as signs
use Rattle.alg_reader.specs.declared.format.Format.TheVariants as formats
use Rattle.alg_reader.specs.Forms as rules
use Rattle.alg_reader.specs.Forms.{Form, a, seq, rule}
use Rattle.alg_reader.specs.Grammar.{sign, cofactor}
use Rattle.alg_reader.specs.Ahead.{rule_begins, Starts, Lacks}
use Rattle.alg_reader.specs.TermMeaning.{nothing}
use Rattle.alg_reader.specs.AnswerMeaning.{cofactor_of}
use Rattle.alg_reader.proofs.ReadSequences.{takes_seq}
use Rattle.alg_reader.proofs.ReadChoices.{takes_some, takes_none}
use Rattle.alg_reader.proofs.Failing.{passed_kept, fails_first, fails_second, fails_some}
use Rattle.alg_reader.proofs.OneToken.{starts_seq, lacks_seq}
use Rattle.alg_reader.proofs.Trees.{some_tree}
use Rattle.alg_reader.proofs.AnswerChoices.{factors_then_comma}
use Rattle.alg_reader.proofs.cursor.Cursor.short_cofactor.Goals as goal

-- a monomial and a comma
abbrev written : Form
written = seq (rule rules.Factors) (sign signs.Comma)

starts_factors : (ts : List Token) → Starts (a kinds.Name) ts → Starts (rule rules.Factors) ts
unfolding rule_begins
starts_factors ts (t, us, e, h) = (t, us, e, grind (arith, nat_tests))

lacks_factors : (ts : List Token) → Lacks (a kinds.Name) ts → Lacks (rule rules.Factors) ts
unfolding rule_begins
lacks_factors ts (t, us, e, h) = (t, us, e, grind (arith, nat_tests))

pub returns-then-not-sees : goal.returns-then-not-sees
returns-then-not-sees c = (
  nothing,
  refl,
  takes_none written refl _ (lacks_seq (rule rules.Factors) (sign signs.Comma) _ refl (lacks_factors _
      c.if-not-sees.ensures)),
)

pub returns-in_err-factors : goal.returns-in_err-factors
returns-in_err-factors c =
    let starts = starts_factors _ c.if-not-sees.ensures in
    passed_kept (cofactor formats.Two) cofactor_of (λ v. v) _ _ c.from_residual.result c.in_err-factors.field-0.0
    c.from_residual.ensures.1 (fails_some written refl _ _ (starts_seq (rule rules.Factors) (sign signs.Comma) _ starts)
    (fails_first (rule rules.Factors) (sign signs.Comma) factors_then_comma (some_tree (sign signs.Comma)) _ _
    c.in_err-factors.ensures))

pub returns-in_err-_comma : goal.returns-in_err-_comma
returns-in_err-_comma c =
    let starts = starts_factors _ c.if-not-sees.ensures in
    passed_kept (cofactor formats.Two) cofactor_of (λ v. v) _ _ c.from_residual-in_err-_comma.result
    c.in_err-_comma.field-0.0 c.from_residual-in_err-_comma.ensures.1 (fails_some written refl _ _ (starts_seq
    (rule rules.Factors) (sign signs.Comma) _ starts) (fails_second (rule rules.Factors) (sign signs.Comma)
    factors_then_comma _ _ _ c.in_ok-factors.ensures _ c.in_err-_comma.ensures))

pub returns : goal.returns
returns c = (
  _,
  refl,
  takes_some written refl _ _ _ (takes_seq (rule rules.Factors) (sign signs.Comma) factors_then_comma _ _ _ _ _
      c.in_ok-factors.ensures c.in_ok-_comma.ensures),
)
