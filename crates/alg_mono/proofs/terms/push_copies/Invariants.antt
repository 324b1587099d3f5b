use Rattle.std.proofs.Common.{◌≡◌, take, ◌++◌}
use Rattle.alg_mono.proofs.terms.push_copies.Given as goal

abbrev pub invariant-loop-term : goal.invariant-loop-term
invariant-loop-term l = l.out.items ≡ l.initial.out.items ++ take l.term-index l.terms
