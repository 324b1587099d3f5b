use Rattle.std.proofs.Common.{arith}
use Rattle.alg_reify.proofs.UseTurns.{use_held, equation_turn, nonzero_turn, outcome_turn}
use Rattle.alg_nsatz.proofs.preparing.make_differences.Goals as goal

pub put_use-requires-clause-held : goal.put_use-requires-clause-held
put_use-requires-clause-held c =
    use_held c.args.file.now c.args.table.now c.args.uses.now c.loop-used.used-index c.used-item.result (omega arith)
    c.used-item.is c.requires.held

-- one use more
pub loop-used-preserved : goal.loop-used-preserved
loop-used-preserved c =
    let file = c.args.file.now in
    let atoms = c.args.table.now in
    let uses = c.args.uses.now in
    let i = c.loop-used.used-index in
    let x = c.used-item.result in
    let before = c.loop-used.differences in
    let after = c.put_use.new.differences in
    let inv = c.loop-used.invariant in
    let put = c.in_ok-put_use.ensures in
    record {
      equations = equation_turn file atoms uses i x x (omega arith) c.used-item.is before.equations.items
          after.equations.items _ put.equations inv.equations;
      nonzero = nonzero_turn file atoms uses i x x (omega arith) c.used-item.is before.nonzero.items
          after.nonzero.items _ put.nonzero inv.nonzero;
      outcome = outcome_turn file atoms uses i x x (omega arith) c.used-item.is _ put.fine inv.outcome;
    }
