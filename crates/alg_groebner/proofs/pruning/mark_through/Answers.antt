use Rattle.std.specs.Prelude.{◌≡◌, ◌+◌, ◌-◌, drop}
use Rattle.std.proofs.Common.{subst, arith}
use Rattle.alg_groebner.specs.Pruning.{mark_lines}
use Rattle.alg_groebner.proofs.Pruned.{marked_turn}
use Rattle.alg_groebner.proofs.pruning.mark_through.Goals as goal

pub loop-at-preserved : goal.loop-at-preserved
loop-at-preserved c =
    let made = c.args.made.now in
    let at = c.loop-at.at in
    let given = c.args.given in
    let first = c.args.marks.now.items in
    let low = c.loop-at.invariant.0 in
    let one : at ≡ at - 1 + 1 = omega arith in (
      omega arith,
      marked_turn given (at - 1) made c.index-made-at.result c.loop-at.marks.items c.mark_from.new.marks.items first
          (omega arith) c.index-made-at.is
          (subst (λ k. c.loop-at.marks.items ≡ mark_lines (given + k) (drop k made) first) one c.loop-at.invariant.1)
          c.mark_from.ensures,
    )
