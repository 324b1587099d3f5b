use Rattle.std.proofs.Common.{arith, ◌+◌, ◌≤◌, length, take, ◌++◌, length-append}
use Rattle.std.proofs.lemmas.Grind.{common_steps}
use Rattle.alg_outside.proofs.Turns.{consumes_more}
use Rattle.alg_outside.proofs.whole.read_whole.Goals as goal

-- what was taken is what stood there and the piece that found no memory
pub returns-then-is_err-clause-no_memory : goal.returns-then-is_err-clause-no_memory
returns-then-is_err-clause-no_memory g c _ =
    let all = c.loop-buffer.all.items in
    let piece = take c.in-Ok.count c.read.new.into in
    let before : length all + length piece ≤ c.args.max + 1 =
    let fits = c.in-Ok.ensures.bytes.0 in
    let kept = c.read.auto.into in
    grind (arith, common_steps) in
    let small : length (all ++ piece) ≤ c.args.max + 1 = omega (arith, length-append all piece) in
    (all ++ piece, consumes_more _ _ _ _ _ c.loop-buffer.invariant.taken c.in-Ok.ensures.bytes.1, small)
