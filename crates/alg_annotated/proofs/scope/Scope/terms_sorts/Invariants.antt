use Rattle.std.proofs.Common.{◌≡◌, flat_map, take}
use Rattle.alg_typing.specs.AnswerTerms.{answer_sorts}
use Rattle.alg_typing.specs.Faults.{first_of}
use Rattle.alg_annotated.specs.Rules.{last_goal}
use Rattle.alg_annotated.proofs.scope.Scope.terms_sorts.Given as goal

-- the first fault of the sorts of the terms so far
abbrev pub invariant-loop-term : goal.invariant-loop-term
invariant-loop-term l =
    l.first ≡ first_of (flat_map (answer_sorts l.self.declared.now l.self.text.now (last_goal l.self.declared.now))
    (take l.term-index l.terms))
