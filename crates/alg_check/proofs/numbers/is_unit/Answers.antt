use Rattle.std.proofs.Common.{rules, ◌≡◌}
use Rattle.alg_check.proofs.NumberTests.{size_unit, size_no_unit}
use Rattle.alg_check.proofs.numbers.is_unit.Goals as goal

pub returns-then-size-eq1 : goal.returns-then-size-eq1
returns-then-size-eq1 c =
    size_unit c.args.p.now c.terms.ensures.sound c.of-size.result c.of-size.ensures.size c.if-size-eq1.true

pub returns-else-size-eq1 : goal.returns-else-size-eq1
returns-else-size-eq1 c =
    let other : c.of-size.result.norm ≡ 1 → ⊥ = let test = c.if-size-eq1.false in λ one. search rules in
    size_no_unit c.args.p.now c.of-size.result c.of-size.ensures.size other
