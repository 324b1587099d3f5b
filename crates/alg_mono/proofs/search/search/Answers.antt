use Rattle.std.proofs.Common.{rules}
use Rattle.std.proofs.lemmas.List.Sorted.{answers_always}
use Rattle.alg_mono.proofs.Insertion.{searched}
use Rattle.alg_mono.proofs.search.search.Goals as goal

-- the closure gives a pair's atom
pub returns : goal.returns
returns c =
    let facts = c.binary_search_by_key.ensures in
    let by_atom = facts.position (λ pair. pair.0) (answers_always _ _ _ (λ f a r g called. search rules)) in
    searched _ c.requires c.args.atom _ facts.bound by_atom
