-- The parts one after the other.
use Rattle.std.proofs.Common.{refl}
use Rattle.alg_tokens.specs.declared.token.Sign.TheVariants as signs
use Rattle.alg_reader.specs.declared.format.Format.TheVariants as formats
use Rattle.alg_reader.specs.Forms as rules
use Rattle.alg_reader.specs.Forms.{rule}
use Rattle.alg_reader.specs.Grammar.{sign, cofactor}
use Rattle.alg_reader.specs.AnswerMeaning.{cofactor_of}
use Rattle.alg_reader.proofs.ReadSequences.{takes_seq}
use Rattle.alg_reader.proofs.Failing.{passed_kept, fails_first, fails_second}
use Rattle.alg_reader.proofs.Trees.{some_tree}
use Rattle.alg_reader.proofs.AnswerChoices.{mono_then_comma}
use Rattle.alg_reader.proofs.cursor.Cursor.given_cofactor.Goals as goal

pub returns-in_err-mono : goal.returns-in_err-mono
returns-in_err-mono c =
    passed_kept (cofactor formats.One) cofactor_of (λ v. v) _ _ c.from_residual.result c.in_err-mono.field-0.0
    c.from_residual.ensures.1 (fails_first (rule rules.Mono) (sign signs.Comma) mono_then_comma (some_tree
    (sign signs.Comma)) _ _ c.in_err-mono.ensures)

pub returns-in_err-_comma : goal.returns-in_err-_comma
returns-in_err-_comma c =
    passed_kept (cofactor formats.One) cofactor_of (λ v. v) _ _ c.from_residual-in_err-_comma.result
    c.in_err-_comma.field-0.0 c.from_residual-in_err-_comma.ensures.1
    (fails_second (rule rules.Mono) (sign signs.Comma) mono_then_comma _ _ _ c.in_ok-mono.ensures _
    c.in_err-_comma.ensures)

pub returns : goal.returns
returns c = (
  _,
  refl,
  takes_seq (rule rules.Mono) (sign signs.Comma) mono_then_comma _ _ _ _ _ c.in_ok-mono.ensures c.in_ok-_comma.ensures,
)
