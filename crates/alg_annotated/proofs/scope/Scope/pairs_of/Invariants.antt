use Rattle.std.proofs.Common.{◌≡◌, [], map, take}
use Rattle.std.specs.Prelude.{unwrap_or}
use Rattle.alg_annotated.specs.Monomials.{factor_pair}
use Rattle.alg_annotated.proofs.scope.Scope.pairs_of.Given as goal

-- the pairs of the factors so far
abbrev pub invariant-loop-factor : goal.invariant-loop-factor
invariant-loop-factor l =
    l.pairs.items ≡ map (factor_pair l.self.declared.now l.self.text.now (unwrap_or l.atoms []))
    (take l.factor-index l.factors)
