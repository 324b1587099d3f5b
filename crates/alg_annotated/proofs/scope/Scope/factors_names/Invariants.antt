use Rattle.std.proofs.Common.{◌≡◌, flat_map, take}
use Rattle.alg_typing.specs.Faults.{first_of}
use Rattle.alg_annotated.specs.Monomials.{factor_names}
use Rattle.alg_annotated.proofs.scope.Scope.factors_names.Given as goal

-- the first fault of the names of the factors so far
abbrev pub invariant-loop-factor : goal.invariant-loop-factor
invariant-loop-factor l =
    l.first ≡ first_of (flat_map (factor_names l.self.declared.now l.self.text.now) (take l.factor-index l.factors))
