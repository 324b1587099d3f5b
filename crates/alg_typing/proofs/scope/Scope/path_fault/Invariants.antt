use Rattle.std.proofs.Common.{◌≡◌, drop}
use Rattle.alg_typing.specs.Faults.{earlier_of, first_of}
use Rattle.alg_typing.specs.SortFaults.{path_sorts}
use Rattle.alg_typing.proofs.scope.Scope.path_fault.Given as goal

-- the first fault so far with that of the rest is the first of all
abbrev pub invariant-loop-i : goal.invariant-loop-i
invariant-loop-i l =
    earlier_of l.first (first_of (path_sorts l.self.declared.now l.self.text.now (drop l.i l.path) l.hyp))
    ≡ first_of (path_sorts l.self.declared.now l.self.text.now l.path l.hyp)
