-- The parts one after the other.
use Rattle.std.proofs.Common.{Some, ap}
use Rattle.alg_tokens.specs.declared.token.TokenKind.TheVariants as kinds
use Rattle.alg_tokens.specs.declared.token.Word.TheVariants as words
use Rattle.alg_reader.specs.declared.format.Format.TheVariants as formats
use Rattle.alg_reader.specs.Grammar.{word, number, divisor}
use Rattle.alg_reader.specs.PartMeaning.{option_of}
use Rattle.alg_reader.proofs.ReadSequences.{takes_seq}
use Rattle.alg_reader.proofs.Failing.{passed_kept, fails_first, fails_second}
use Rattle.alg_reader.proofs.Sequences.{token_apart}
use Rattle.alg_reader.proofs.Trees.{some_tree}
use Rattle.alg_reader.proofs.cursor.Cursor.given_divisor.Goals as goal

pub returns-in_err-_over : goal.returns-in_err-_over
returns-in_err-_over c =
    passed_kept (divisor formats.One) option_of (λ v. v) _ _ c.from_residual.result c.in_err-_over.field-0.0
    c.from_residual.ensures.1 (fails_first (word words.Over) number (token_apart (kinds.Word words.Over) number)
    (some_tree
    number) _ _ c.in_err-_over.ensures)

pub returns-in_err-number : goal.returns-in_err-number
returns-in_err-number c =
    passed_kept (divisor formats.One) option_of (λ v. v) _ _ c.from_residual-in_err-number.result
    c.in_err-number.field-0.0 c.from_residual-in_err-number.ensures.1
    (fails_second (word words.Over) number (token_apart (kinds.Word words.Over) number) _ _ _ c.in_ok-_over.ensures _
    c.in_err-number.ensures)

pub returns : goal.returns
returns c = (
  _,
  ap (λ n. Some n) c.numeral_of.ensures,
  takes_seq (word words.Over) number (token_apart (kinds.Word words.Over) number) _ _ _ _ _ c.in_ok-_over.ensures
      c.in_ok-number.ensures,
)
