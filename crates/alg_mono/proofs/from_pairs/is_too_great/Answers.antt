use Rattle.std.proofs.Common.{arith, refl}
use Rattle.alg_mono.proofs.Sums.{degree-take_more}
use Rattle.alg_mono.proofs.from_pairs.is_too_great.Goals as goal

-- the pairs up to this one are too much
pub returns-then-pair-left : goal.returns-then-pair-left
returns-then-pair-left c =
    let more = degree-take_more c.args.pairs.now c.loop-pair.pair-index (0, 0) (omega arith) in
    (λ yes. omega (arith, more, c.loop-pair.invariant, c.if-pair-left.true), λ great. refl)
