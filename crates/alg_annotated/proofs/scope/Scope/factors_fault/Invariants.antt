use Rattle.std.proofs.Common.{◌≡◌, [], flat_map, take}
use Rattle.std.specs.Prelude.{unwrap_or}
use Rattle.alg_typing.specs.Faults.{first_of}
use Rattle.alg_annotated.specs.Monomials.{factor_fault}
use Rattle.alg_annotated.proofs.scope.Scope.factors_fault.Given as goal

-- the first fault of the factors so far
abbrev pub invariant-loop-factor : goal.invariant-loop-factor
invariant-loop-factor l =
    l.first ≡ first_of (flat_map (factor_fault l.self.declared.now l.self.text.now (unwrap_or l.atoms []))
    (take l.factor-index l.factors))
