-- The parts one after the other.
use Rattle.std.proofs.Common.{◌≡◌, List, Option, None, refl}
use Rattle.alg_reader.specs.declared.raw.RawAnswer.TheVariants as answers
use Rattle.alg_reader.specs.declared.raw.RawNumber.{RawNumber}
use Rattle.alg_reader.specs.Forms as rules
use Rattle.alg_reader.specs.Forms.{rule}
use Rattle.alg_reader.specs.Grammar.{grammar}
use Rattle.alg_reader.specs.Meaning.{act}
use Rattle.alg_reader.specs.TermMeaning.{answer}
use Rattle.alg_reader.specs.Parts.{held_answer}
use Rattle.alg_reader.proofs.Failing.{passed_kept}
use Rattle.alg_reader.proofs.Sequences.{owes_rule, owes_less, owes_fails, owes_token, fails_token}
use Rattle.alg_reader.proofs.AnswerChoices.{version_then_power}
use Rattle.alg_reader.proofs.Numerals.{owes_number, fails_number}
use Rattle.alg_reader.proofs.cursor.Cursor.certified.Goals as goal

-- nothing is left out of an answer by a certificate
certified_held : (version version' : Option RawNumber) (power power' : RawNumber)
    (constants constants' : List RawNumber)
    → version ≡ version' → power ≡ power' → constants ≡ constants'
    → record { answer = answers.Certified version power constants; too_deep = None }
    ≡ held_answer (answers.Certified version' power' constants')
unfolding held_answer
certified_held version version' power power' constants constants' e f g = rw (e, f, g) refl

pub returns-in_err-version : goal.returns-in_err-version
unfolding grammar
returns-in_err-version c =
    let o = owes_rule rules.Certified _ in
    passed_kept (rule rules.Certified) held_answer answer _ _ c.from_residual.result c.in_err-version.field-0.0
    c.from_residual.ensures.1 (owes_fails _ version_then_power o c.in_err-version.ensures)

pub returns-in_err-_power : goal.returns-in_err-_power
unfolding grammar
returns-in_err-_power c =
    let o = owes_less version_then_power (owes_rule rules.Certified _) c.in_ok-version.ensures.2 in
    passed_kept (rule rules.Certified) held_answer answer _ _ c.from_residual-in_err-_power.result
    c.in_err-_power.field-0.0 c.from_residual-in_err-_power.ensures.1 (fails_token _ o c.in_err-_power.ensures)

pub returns-in_err-power : goal.returns-in_err-power
unfolding grammar
returns-in_err-power c =
    let before_power = owes_less version_then_power (owes_rule rules.Certified _) c.in_ok-version.ensures.2 in
    let o = owes_token before_power c.in_ok-_power.ensures in
    passed_kept (rule rules.Certified) held_answer answer _ _ c.from_residual-in_err-power.result
    c.in_err-power.field-0.0 c.from_residual-in_err-power.ensures.1 (fails_number _ o c.in_err-power.ensures)

pub returns-in_err-constants : goal.returns-in_err-constants
unfolding grammar
returns-in_err-constants c =
    let before_power = owes_less version_then_power (owes_rule rules.Certified _) c.in_ok-version.ensures.2 in
    let o = owes_number (owes_token before_power c.in_ok-_power.ensures) c.in_ok-power.ensures in
    passed_kept (rule rules.Certified) held_answer answer _ _ c.from_residual-in_err-constants.result
    c.in_err-constants.field-0.0 c.from_residual-in_err-constants.ensures.1 (o.fails _ c.in_err-constants.ensures)

pub returns : goal.returns
unfolding grammar act
returns c =
    let before_power = owes_less version_then_power (owes_rule rules.Certified _) c.in_ok-version.ensures.2 in
    let o = owes_number (owes_token before_power c.in_ok-_power.ensures) c.in_ok-power.ensures in
    let (v, e, p) = c.in_ok-version.ensures in
    let (w, f, q) = c.in_ok-constants.ensures in
    (_, certified_held _ _ _ _ _ _ e c.numeral_of.ensures f, o.takes _ _ q)
