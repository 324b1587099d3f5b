use Rattle.std.proofs.Common.{◌≡◌, flat_map, take}
use Rattle.alg_typing.specs.Faults.{first_of}
use Rattle.alg_typing.specs.NameFaults.{use_names}
use Rattle.alg_typing.proofs.scope.Scope.uses_names.Given as goal

abbrev pub invariant-loop-used : goal.invariant-loop-used
invariant-loop-used l =
    l.first ≡ first_of (flat_map (use_names l.self.declared.now l.self.text.now) (take l.used-index l.uses))
