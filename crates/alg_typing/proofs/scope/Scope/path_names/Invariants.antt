use Rattle.std.proofs.Common.{◌≡◌, flat_map, take}
use Rattle.alg_typing.specs.Faults.{first_of}
use Rattle.alg_typing.specs.NameFaults.{used_name}
use Rattle.alg_typing.specs.Names.{is_hom}
use Rattle.alg_typing.proofs.scope.Scope.path_names.Given as goal

abbrev pub invariant-loop-name : goal.invariant-loop-name
invariant-loop-name l =
    l.first ≡ first_of (flat_map (used_name l.self.declared.now l.self.text.now is_hom) (take l.name-index l.path))
