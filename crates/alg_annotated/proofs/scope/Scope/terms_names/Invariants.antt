use Rattle.std.proofs.Common.{◌≡◌, flat_map, take}
use Rattle.alg_typing.specs.Faults.{first_of}
use Rattle.alg_typing.specs.NameFaults.{term_names}
use Rattle.alg_annotated.proofs.scope.Scope.terms_names.Given as goal

-- the first fault of the names of the terms so far
abbrev pub invariant-loop-term : goal.invariant-loop-term
invariant-loop-term l =
    l.first ≡ first_of (flat_map (term_names l.self.declared.now l.self.text.now) (take l.term-index l.terms))
