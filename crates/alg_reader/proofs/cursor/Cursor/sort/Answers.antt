-- The parts one after the other.
use Rattle.std.proofs.Common.{refl}
use Rattle.alg_tokens.specs.declared.token.TokenKind.TheVariants as kinds
use Rattle.alg_tokens.specs.declared.token.Word.TheVariants as words
use Rattle.alg_reader.specs.Forms as rules
use Rattle.alg_reader.specs.Forms.{rule, seq}
use Rattle.alg_reader.specs.Grammar.{grammar, word, zero}
use Rattle.alg_reader.specs.Meaning.{act}
use Rattle.alg_reader.proofs.ReadSequences.{takes_seq}
use Rattle.alg_reader.proofs.ReadChoices.{takes_some, takes_none}
use Rattle.alg_reader.proofs.Failing.{passed_statement, fails_second, fails_some}
use Rattle.alg_reader.proofs.OneToken.{taken, starts_seq, lacks_seq}
use Rattle.alg_reader.proofs.Sequences.{owes_rule, owes_less, owes_fails, owes_token, fails_token}
use Rattle.alg_reader.proofs.cursor.Cursor.sort.Goals as goal

pub returns-in_err-word : goal.returns-in_err-word
unfolding grammar
returns-in_err-word c =
    let o = owes_rule rules.Sort _ in
    passed_statement (rule rules.Sort) _ _ c.from_residual.result c.in_err-word.field-0.0
    c.from_residual.ensures.1 (owes_fails _ (λ n h h'. cc) o c.in_err-word.ensures)

pub returns-in_err-name : goal.returns-in_err-name
unfolding grammar
returns-in_err-name c =
    let o = owes_less (λ n h h'. cc) (owes_rule rules.Sort _) c.in_ok-word.ensures in
    passed_statement (rule rules.Sort) _ _ c.from_residual-in_err-name.result c.in_err-name.field-0.0
    c.from_residual-in_err-name.ensures.1 (fails_token _ o c.in_err-name.ensures)

-- without `char`
pub returns-then-not-sees : goal.returns-then-not-sees
unfolding grammar act
returns-then-not-sees c =
    let o = owes_token (owes_less (λ n h h'. cc)
    (owes_rule rules.Sort _) c.in_ok-word.ensures) c.in_ok-name.ensures in (
      _,
      c.plain.ensures,
      rw (c.sort_word-kind.ensures, c.span_of-name.ensures) (o.takes _ _ (takes_none (seq
          (word words.Char) zero) refl _ (lacks_seq (word words.Char) zero _ refl c.if-not-sees.ensures))),
    )

pub returns-in_err-_zero : goal.returns-in_err-_zero
unfolding grammar
returns-in_err-_zero c =
    let o = owes_token (owes_less (λ n h h'. cc) (owes_rule rules.Sort _) c.in_ok-word.ensures) c.in_ok-name.ensures in
    let char = taken (kinds.Word words.Char) _ _ c.take-char.result c.if-not-sees.ensures c.take-char.ensures in
    passed_statement (rule rules.Sort) _ _ c.from_residual-in_err-_zero.result c.in_err-_zero.field-0.0
    c.from_residual-in_err-_zero.ensures.1
    (o.fails _ (fails_some (seq (word words.Char) zero) refl _ _ (starts_seq
    (word words.Char) zero _ c.if-not-sees.ensures)
    (fails_second (word words.Char) zero (λ n h h'. cc) _ _ _ char _ c.in_err-_zero.ensures)))

pub returns : goal.returns
unfolding grammar act
returns c =
    let o = owes_token (owes_less (λ n h h'. cc) (owes_rule rules.Sort _) c.in_ok-word.ensures) c.in_ok-name.ensures in
    let char = taken (kinds.Word words.Char) _ _ c.take-char.result c.if-not-sees.ensures c.take-char.ensures in (
      _,
      c.plain-2.ensures,
      rw (c.sort_word-kind.ensures, c.span_of-name.ensures) (o.takes _ _ (takes_some (seq
          (word words.Char) zero) refl _ _ _
          (takes_seq (word words.Char) zero (λ n h h'. cc) _ _ _ _ _ char c.in_ok-_zero.ensures))),
    )
