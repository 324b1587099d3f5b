use Rattle.std.proofs.Common.{refl}
use Rattle.alg_tokens.specs.declared.token.TokenKind.TheVariants as kinds
use Rattle.alg_tokens.specs.declared.token.Word.TheVariants as words
use Rattle.alg_reader.specs.Forms.{seq}
use Rattle.alg_reader.specs.Grammar.{option, options, using}
use Rattle.alg_reader.specs.PartMeaning.{nsatz_of}
use Rattle.alg_reader.proofs.ReadSequences.{takes_seq}
use Rattle.alg_reader.proofs.Failing.{passed_kept, fails_first, fails_second}
use Rattle.alg_reader.proofs.Choices.{using_apart, power_apart}
use Rattle.alg_reader.proofs.Trees.{some_tree}
use Rattle.alg_reader.proofs.cursor.Cursor.options.Goals as goal

pub returns-in_err-uses : goal.returns-in_err-uses
returns-in_err-uses c =
    let numbers = seq (option (kinds.Word words.Power)) (option (kinds.Word words.Limit)) in
    passed_kept options nsatz_of (λ v. v) _ _ c.from_residual.result c.in_err-uses.field-0.0
    c.from_residual.ensures.1 (fails_first using numbers using_apart (some_tree numbers) _ _ c.in_err-uses.ensures)

pub returns-in_err-power : goal.returns-in_err-power
returns-in_err-power c =
    let numbers = seq (option (kinds.Word words.Power)) (option (kinds.Word words.Limit)) in
    passed_kept options nsatz_of (λ v. v) _ _ c.from_residual-in_err-power.result c.in_err-power.field-0.0
    c.from_residual-in_err-power.ensures.1 (fails_second using numbers using_apart _ _ _ c.in_ok-uses.ensures.2 _
    (fails_first (option (kinds.Word words.Power)) (option (kinds.Word words.Limit)) power_apart
    (some_tree (option (kinds.Word words.Limit))) _ _
    c.in_err-power.ensures))

pub returns-in_err-limit : goal.returns-in_err-limit
returns-in_err-limit c =
    let numbers = seq (option (kinds.Word words.Power)) (option (kinds.Word words.Limit)) in
    passed_kept options nsatz_of (λ v. v) _ _ c.from_residual-in_err-limit.result c.in_err-limit.field-0.0
    c.from_residual-in_err-limit.ensures.1 (fails_second using numbers using_apart _ _ _ c.in_ok-uses.ensures.2 _
    (fails_second (option (kinds.Word words.Power)) (option (kinds.Word words.Limit)) power_apart _ _ _
    c.in_ok-power.ensures.2 _
    c.in_err-limit.ensures))

pub returns : goal.returns
returns c =
    let (v, e, p) = c.in_ok-uses.ensures in
    let (w, f, q) = c.in_ok-power.ensures in
    let (x, g, r) = c.in_ok-limit.ensures in (
      _,
      rw (e, f, g) refl,
      takes_seq using (seq (option (kinds.Word words.Power)) (option (kinds.Word words.Limit))) using_apart _ _ _ _ _ p
          (takes_seq (option (kinds.Word words.Power)) (option (kinds.Word words.Limit)) power_apart _ _ _ _ _ q r),
    )
