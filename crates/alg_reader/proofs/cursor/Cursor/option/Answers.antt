use Rattle.std.proofs.Common.{Some, refl, ap}
use Rattle.alg_reader.specs.Forms.{a, seq}
use Rattle.alg_reader.specs.Grammar.{number, option}
use Rattle.alg_reader.specs.PartMeaning.{option_of}
use Rattle.alg_reader.proofs.ReadSequences.{takes_seq}
use Rattle.alg_reader.proofs.ReadChoices.{takes_some, takes_none}
use Rattle.alg_reader.proofs.Failing.{passed_kept, fails_second, fails_some}
use Rattle.alg_reader.proofs.OneToken.{taken, starts_seq, lacks_seq}
use Rattle.alg_reader.proofs.Sequences.{token_apart}
use Rattle.alg_reader.proofs.cursor.Cursor.option.Goals as goal

pub returns-then-not-sees : goal.returns-then-not-sees
returns-then-not-sees c =
    let k = c.args.kind in
    (_, refl, takes_none (seq (a k) number) refl _ (lacks_seq (a k) number _ refl c.if-not-sees.ensures))

pub returns-in_err-number : goal.returns-in_err-number
returns-in_err-number c =
    let k = c.args.kind in
    let here = taken k _ _ c.take-word.result c.if-not-sees.ensures c.take-word.ensures in
    passed_kept (option k) option_of (λ v. v) _ _ c.from_residual.result c.in_err-number.field-0.0
    c.from_residual.ensures.1
    (fails_some (seq (a k) number) refl _ _ (starts_seq (a k) number _ c.if-not-sees.ensures)
    (fails_second (a k) number (token_apart k number) _ _ _ here _ c.in_err-number.ensures))

pub returns : goal.returns
returns c =
    let k = c.args.kind in
    let here = taken k _ _ c.take-word.result c.if-not-sees.ensures c.take-word.ensures in (
      _,
      ap (λ n. Some n) c.numeral_of.ensures,
      takes_some (seq (a k) number) refl _ _ _
          (takes_seq (a k) number (token_apart k number) _ _ _ _ _ here c.in_ok-number.ensures),
    )
