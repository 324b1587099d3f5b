use Rattle.std.proofs.Common.{◌≡◌, ◌++◌, drop}
use Rattle.alg_reify.specs.Preparing.{uses_outcome, equation_differences, nonzero_differences}
use Rattle.alg_nsatz.proofs.preparing.make_differences.Given as goal

-- what is there, with what is left, is all
abbrev pub invariant-loop-used : goal.invariant-loop-used
invariant-loop-used l = record {
  equations : l.differences.equations.items ++ equation_differences l.file l.table (drop l.used-index l.uses)
      ≡ equation_differences l.file l.table l.uses;
  nonzero : l.differences.nonzero.items ++ nonzero_differences l.file l.table (drop l.used-index l.uses)
      ≡ nonzero_differences l.file l.table l.uses;
  outcome : uses_outcome l.file (drop l.used-index l.uses) ≡ uses_outcome l.file l.uses;
}
