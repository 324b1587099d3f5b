use Rattle.std.proofs.Common.{sym, ◌∙◌}
use Rattle.alg_reify.specs.FactorMaps.{product}
use Rattle.alg_field.proofs.Multiplied.{within_first, nothing_times}
use Rattle.alg_field.proofs.multiply.multiplied.Goals as goal

pub returns-then-is_zero : goal.returns-then-is_zero
returns-then-is_zero c =
    nothing_times c.args.p (product c.args.list.now) (sym c.is_zero.ensures.test ∙ c.if-is_zero.true)

pub times_powers-requires : goal.times_powers-requires
times_powers-requires c =
    within_first c.args.p c.args.list.now c.is_zero.ensures.sound (sym c.is_zero.ensures.test ∙ c.if-is_zero.false)
    c.requires.list c.requires.fine
