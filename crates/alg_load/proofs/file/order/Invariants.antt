use Rattle.std.proofs.Common.{◌≡◌}
use Rattle.alg_load.specs.Loaded.{loaded}
use Rattle.alg_load.proofs.file.order.Given as goal

abbrev pub invariant-loop-i : goal.invariant-loop-i
invariant-loop-i l = l.order ≡ (loaded l.i).order
