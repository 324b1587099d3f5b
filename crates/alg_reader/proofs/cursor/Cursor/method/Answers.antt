use Rattle.std.proofs.Common.{refl}
use Rattle.alg_tokens.specs.declared.token.TokenKind.TheVariants as kinds
use Rattle.alg_tokens.specs.declared.token.Word.TheVariants as words
use Rattle.alg_reader.specs.Forms as rules
use Rattle.alg_reader.specs.Forms.{rule, seq, alt}
use Rattle.alg_reader.specs.Grammar.{grammar, word, options}
use Rattle.alg_reader.specs.Meaning.{method_value, act}
use Rattle.alg_reader.proofs.ReadSequences.{takes_seq}
use Rattle.alg_reader.proofs.ReadChoices.{takes_left, takes_right}
use Rattle.alg_reader.proofs.ReadRows.{takes_rule}
use Rattle.alg_reader.proofs.Failing.{passed, fails_second, fails_left, fails_right, fails_rule}
use Rattle.alg_reader.proofs.OneToken.{taken, starts_seq, lacks_seq}
use Rattle.alg_reader.proofs.Choices.{nsatz_apart, options_apart}
use Rattle.alg_reader.proofs.cursor.Cursor.method.Goals as goal

pub returns-then-sees : goal.returns-then-sees
unfolding grammar act
returns-then-sees c =
    let word_here = taken (kinds.Word words.Nsatz) _ _ c.take-word.result c.if-sees.ensures c.take-word.ensures in
    let (v, e, p) = c.in_ok-method.ensures in
    rw e (takes_rule rules.Method _ _ _ (takes_left (seq (word words.Nsatz) options) (alt (word words.Ring)
    (word words.Field)) nsatz_apart refl refl _ _ _
    (takes_seq (word words.Nsatz) options options_apart _ _ _ _ _ word_here p)))

pub returns-in_err-method : goal.returns-in_err-method
unfolding grammar
returns-in_err-method c =
    let word_here = taken (kinds.Word words.Nsatz) _ _ c.take-word.result c.if-sees.ensures c.take-word.ensures in
    passed (rule rules.Method) method_value _ _ c.from_residual.result c.in_err-method.field-0.0
    c.from_residual.ensures.1
    (fails_rule rules.Method _ _ (fails_left (seq (word words.Nsatz) options) (alt (word words.Ring)
    (word words.Field)) nsatz_apart refl refl _ _
    (starts_seq (word words.Nsatz) options _ c.if-sees.ensures)
    (fails_second (word words.Nsatz) options options_apart _ _ _ word_here _ c.in_err-method.ensures)))

pub returns-in_err-word : goal.returns-in_err-word
unfolding grammar
returns-in_err-word c =
    passed (rule rules.Method) method_value _ _ c.from_residual-in_err-word.result c.in_err-word.field-0.0
    c.from_residual-in_err-word.ensures.1
    (fails_rule rules.Method _ _ (fails_right (seq (word words.Nsatz) options) (alt (word words.Ring)
    (word words.Field)) nsatz_apart refl refl _ _
    (lacks_seq (word words.Nsatz) options _ refl c.if-sees.ensures) c.in_err-word.ensures))

pub returns : goal.returns
unfolding grammar act
returns c =
    rw c.method_word.ensures (takes_rule rules.Method _ _ _ (takes_right (seq (word words.Nsatz) options) (alt
    (word words.Ring) (word words.Field)) nsatz_apart refl refl _ _ _
    c.in_ok-word.ensures))
