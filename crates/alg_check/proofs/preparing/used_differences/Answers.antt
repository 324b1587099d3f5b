use Rattle.std.proofs.Common.{arith}
use Rattle.alg_reify.proofs.UseTurns.{use_held, equation_turn, nonzero_turn, outcome_turn}
use Rattle.alg_check.proofs.preparing.used_differences.Goals as goal

pub add_use-requires-clause-held : goal.add_use-requires-clause-held
add_use-requires-clause-held c =
    use_held c.args.file.now c.args.table.now c.args.uses.now c.loop-one.one-index c.one-item.result (omega arith)
    c.one-item.is c.requires.held

-- one use more
pub loop-one-preserved : goal.loop-one-preserved
loop-one-preserved c =
    let file = c.args.file.now in
    let atoms = c.args.table.now in
    let uses = c.args.uses.now in
    let i = c.loop-one.one-index in
    let x = c.one-item.result in
    let before = c.loop-one.used in
    let after = c.add_use.new.used in
    let inv = c.loop-one.invariant in
    let more = c.in_ok-add_use.ensures in
    record {
      zero = equation_turn file atoms uses i x x (omega arith) c.one-item.is before.zero.items after.zero.items _
          more.zero inv.zero;
      factors = nonzero_turn file atoms uses i x x (omega arith) c.one-item.is before.factors.items after.factors.items
          _ more.factors inv.factors;
      outcome = outcome_turn file atoms uses i x x (omega arith) c.one-item.is _ more.fine inv.outcome;
    }
