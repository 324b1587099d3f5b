use Rattle.std.proofs.Common.{◌∙◌}
use Rattle.alg_printer.proofs.Numbers.{names_turn}
use Rattle.alg_printer.proofs.statements.put_names.Goals as goal

-- one more name
pub loop-k-preserved : goal.loop-k-preserved
loop-k-preserved c =
    names_turn c.args.file.now c.args.first c.args.count c.loop-k.k _ _ _ c.loop-k-test.true c.in_ok-put.ensures
    c.in_ok-put_variable.ensures ∙ c.loop-k.invariant
