use Rattle.std.proofs.Common.{refl}
use Rattle.alg_terms.specs.Nodes.{fold_term}
use Rattle.alg_universe.proofs.tests.inverses_in_rats.Goals as goal

pub returns-clause-two_thirds : goal.returns-clause-two_thirds
unfolding fold_term Rattle.alg_terms.specs.declared.term.Term.TheBlock.hidden-the_row-Term-0 denote.Hole.Carrier.hidden
returns-clause-two_thirds c = refl

pub returns-clause-minus_two_thirds : goal.returns-clause-minus_two_thirds
unfolding fold_term Rattle.alg_terms.specs.declared.term.Term.TheBlock.hidden-the_row-Term-0 denote.Hole.Carrier.hidden
returns-clause-minus_two_thirds c = refl
