use Rattle.std.proofs.Common.{refl}
use Rattle.alg_reader.specs.Forms.{a}
use Rattle.alg_reader.specs.TermMeaning.{one}
use Rattle.alg_reader.proofs.ReadChoices.{takes_left}
use Rattle.alg_reader.proofs.OneToken.{taken}
use Rattle.alg_reader.proofs.Choices.{kinds_apart, right_read}
use Rattle.alg_reader.proofs.cursor.Cursor.expect_either.Goals as goal

pub returns-then-sees : goal.returns-then-sees
returns-then-sees c =
    let k = c.args.kind in
    let l = c.args.other in
    takes_left (a k) (a l) (kinds_apart k l c.requires.differ) refl refl _ _ _
    (taken k _ _ c.take.result c.if-sees.ensures c.take.ensures)

pub returns : goal.returns
returns c =
    let k = c.args.kind in
    let l = c.args.other in
    right_read (a k) (a l) one _ _ c.expect.result (kinds_apart k l c.requires.differ) refl refl c.if-sees.ensures
    c.expect.ensures
