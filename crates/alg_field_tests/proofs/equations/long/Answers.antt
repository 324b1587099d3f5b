use Rattle.std.proofs.Common.{arith}
use Rattle.alg_field.proofs.TestTerms.{deeper}
use Rattle.alg_field_tests.proofs.equations.long.Goals as goal

pub returns : goal.returns
returns c =
    let file = c.args.file.now in
    let there = c.requires in
    c.equation.ensures 984 (c.in_ok-left.ensures file there)
    (deeper file 4 984 _ (omega arith) (c.in_ok-right.ensures file there))
