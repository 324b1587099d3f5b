use Rattle.std.proofs.Common.{arith}
use Rattle.alg_field.proofs.TestTerms.{deeper}
use Rattle.alg_field_tests.proofs.equations.goal.Goals as goal

pub returns : goal.returns
returns c =
    let file = c.args.file.now in
    let there = c.requires in
    let inner = c.in_ok-inner.ensures file 4 (omega arith) (c.in_ok-power.ensures file there)
    (c.in_ok-power-2.ensures file there) in
    let left = c.in_ok-left.ensures file 5 (omega arith)
    (deeper file 4 5 _ (omega arith) (c.in_ok-power-3.ensures file there)) inner in
    let right = c.in_ok-right.ensures file 4 (omega arith) (c.in_ok-power-4.ensures file there)
    (c.in_ok-power-5.ensures file there) in
    c.equation.ensures 6 left (deeper file 5 6 _ (omega arith) right)
