use Rattle.std.proofs.Common.{◌≡◌, map, take}
use Rattle.alg_typing.specs.Resolved.{term_of}
use Rattle.alg_annotated.proofs.scope.Scope.terms_of.Given as goal

-- the terms so far
abbrev pub invariant-loop-raw : goal.invariant-loop-raw
invariant-loop-raw l = l.terms.items ≡ map (term_of l.self.declared.now l.self.text.now) (take l.raw-index l.raws)
