use Rattle.std.proofs.Common.{take}
use Rattle.alg_check.specs.Bounds.{IsSizeOf}
use Rattle.alg_check.proofs.bounds.size_of.Given as goal

abbrev pub invariant-loop-p : goal.invariant-loop-p
invariant-loop-p l = IsSizeOf (take l.p-index l.ps) l.size
