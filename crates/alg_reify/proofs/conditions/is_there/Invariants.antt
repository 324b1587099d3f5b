use Rattle.std.proofs.Common.{◌≡◌, drop}
use Rattle.std.specs.List.{list_any}
use Rattle.alg_meaning.specs.Trees.{same_tree}
use Rattle.alg_reify.proofs.conditions.is_there.Given as goal

-- what is left decides
abbrev pub invariant-loop-one : goal.invariant-loop-one
invariant-loop-one l = list_any (same_tree l.term) (drop l.one-index l.terms) ≡ list_any (same_tree l.term) l.terms
