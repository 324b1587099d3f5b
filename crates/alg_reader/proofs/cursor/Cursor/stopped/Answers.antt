-- One of three words.
use Rattle.std.proofs.Common.{refl, arith}
use Rattle.alg_tokens.specs.declared.token.TokenKind.TheVariants as kinds
use Rattle.alg_tokens.specs.declared.token.Word.TheVariants as words
use Rattle.alg_reader.specs.Forms as rules
use Rattle.alg_reader.specs.Forms.{Form, alt, rule}
use Rattle.alg_reader.specs.Grammar.{grammar, word}
use Rattle.alg_reader.specs.Meaning.{act}
use Rattle.alg_reader.specs.Ahead.{begins}
use Rattle.alg_reader.proofs.Ahead.{Disjoint}
use Rattle.alg_reader.proofs.ReadChoices.{takes_left, takes_right}
use Rattle.alg_reader.proofs.ReadRows.{takes_rule}
use Rattle.alg_reader.proofs.Failing.{passed_statement, fails_right, fails_rule}
use Rattle.alg_reader.proofs.OneToken.{taken}
use Rattle.alg_reader.proofs.cursor.Cursor.stopped.Goals as goal

-- the words of the other two
abbrev others : Form
others = alt (word words.Degree) (word words.Atoms)

range_apart : Disjoint (begins (word words.Range)) (begins others)
range_apart n h h' = grind arith

pub returns-then-sees : goal.returns-then-sees
unfolding grammar act
returns-then-sees c =
    let range = taken (kinds.Word words.Range) _ _ c.take-range.result c.if-sees.ensures c.take-range.ensures in (
      _,
      c.plain.ensures,
      rw c.stopped_word.ensures (takes_rule rules.Stopped _ _ _
          (takes_left (word words.Range) others range_apart refl refl
          _ _ _ range)),
    )

pub returns-in_err-word : goal.returns-in_err-word
unfolding grammar
returns-in_err-word c =
    passed_statement (rule rules.Stopped) _ _ c.from_residual.result c.in_err-word.field-0.0 c.from_residual.ensures.1
    (fails_rule rules.Stopped _ _ (fails_right (word words.Range) others range_apart refl refl _ _ c.if-sees.ensures
    c.in_err-word.ensures))

pub returns : goal.returns
unfolding grammar act
returns c = (
  _,
  c.plain-2.ensures,
  rw c.stopped_word-2.ensures (takes_rule rules.Stopped _ _ _
      (takes_right (word words.Range) others range_apart refl refl
      _ _ _ c.in_ok-word.ensures)),
)
