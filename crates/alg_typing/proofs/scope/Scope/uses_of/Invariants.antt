use Rattle.std.proofs.Common.{◌≡◌, map, take}
use Rattle.alg_typing.specs.Resolved.{use_of}
use Rattle.alg_typing.proofs.scope.Scope.uses_of.Given as goal

abbrev pub invariant-loop-used : goal.invariant-loop-used
invariant-loop-used l =
    l.all.items ≡ map (use_of l.self.declared.now l.self.text.now) (take l.used-index l.uses)
