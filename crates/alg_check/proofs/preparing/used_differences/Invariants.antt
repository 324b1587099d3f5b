use Rattle.std.proofs.Common.{◌≡◌, ◌++◌, drop}
use Rattle.alg_reify.specs.Preparing.{uses_outcome, equation_differences, nonzero_differences}
use Rattle.alg_check.proofs.preparing.used_differences.Given as goal

-- what is there, with what is left, is all
abbrev pub invariant-loop-one : goal.invariant-loop-one
invariant-loop-one l = record {
  zero : l.used.zero.items ++ equation_differences l.file l.table (drop l.one-index l.uses)
      ≡ equation_differences l.file l.table l.uses;
  factors : l.used.factors.items ++ nonzero_differences l.file l.table (drop l.one-index l.uses)
      ≡ nonzero_differences l.file l.table l.uses;
  outcome : uses_outcome l.file (drop l.one-index l.uses) ≡ uses_outcome l.file l.uses;
}
