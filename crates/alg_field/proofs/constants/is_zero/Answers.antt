use Rattle.std.proofs.Common.{◌∙◌}
use Rattle.alg_field.proofs.NumberTests.{zero_test}
use Rattle.alg_field.proofs.constants.is_zero.Goals as goal

pub returns-clause-test : goal.returns-clause-test
returns-clause-test c =
    c.eq.ensures ∙ zero_test c.args.p.now c.number_of.result c.number_of.ensures.number
