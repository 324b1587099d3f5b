use Rattle.std.proofs.Common.{◌<◌, ◌+◌, length}
use Rattle.alg_terms.specs.declared.file.File.{File}
use Rattle.alg_field.specs.TestTerms.{IsSide}
use Rattle.alg_field_tests.proofs.equations.chain.Given as goal

-- each quotient is one deeper
abbrev pub invariant-loop-k : goal.invariant-loop-k
invariant-loop-k l = (file : File) → 0 < length file.vars → IsSide file (4 + l._k) l.long
