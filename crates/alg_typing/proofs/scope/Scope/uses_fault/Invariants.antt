use Rattle.std.proofs.Common.{◌≡◌, flat_map, take}
use Rattle.alg_typing.specs.Faults.{first_of}
use Rattle.alg_typing.specs.SortFaults.{use_sorts}
use Rattle.alg_typing.proofs.scope.Scope.uses_fault.Given as goal

abbrev pub invariant-loop-used : goal.invariant-loop-used
invariant-loop-used l =
    l.first
    ≡ first_of (flat_map (use_sorts l.self.declared.now l.self.text.now l.sort) (take l.used-index l.uses))
