use Rattle.std.proofs.Common.{◌<◌, ◌+◌, ◌*◌, drop, arith, length-drop}
use Rattle.std.proofs.lemmas.Int.{ints}
use Rattle.alg_tokens.specs.Pieces.{value_of}
use Rattle.alg_tokens.proofs.Values.{one_digit, value_grows, value_grows_more}
use Rattle.alg_tokens.proofs.scan.value.Goals as goal

-- what was read is too great for one digit more
pub returns-then-value-max : goal.returns-then-value-max
returns-then-value-max c =
    let grows = value_grows_more c.loop-digit.value (drop c.loop-digit.digit-index c.args.digits.now) (omega
    (arith, length-drop c.loop-digit.digit-index c.args.digits.now)) in
    let same = c.loop-digit.invariant.0 in
    let over : 170141183460469231731687303715884105727 < value_of c.args.digits.now = omega arith in
    omega (arith, ints)

-- with this digit it is too great
pub returns-then-value-max-2 : goal.returns-then-value-max-2
returns-then-value-max-2 c =
    let turn = one_digit c.args.digits.now c.loop-digit.digit-index c.loop-digit.value (omega arith) in
    let grows = value_grows (c.loop-digit.value * 10 + c.from.result) (drop
    (c.loop-digit.digit-index + 1) c.args.digits.now) in
    let same = c.loop-digit.invariant.0 in
    let digit = c.from.ensures in
    let over : 170141183460469231731687303715884105727 < value_of c.args.digits.now = grind arith in
    omega (arith, ints)

pub loop-digit-preserved : goal.loop-digit-preserved
loop-digit-preserved c =
    let turn = one_digit c.args.digits.now c.loop-digit.digit-index c.loop-digit.value (omega arith) in
    let same = c.loop-digit.invariant.0 in
    let digit = c.from.ensures in
    (grind arith, omega arith)
