use Rattle.alg_terms.specs.Nodes.{fold_term}
use Rattle.alg_universe.proofs.tests.conditions_hold_at_their_own_sort_or_else_at_the_goals.Goals as goal

pub returns-clause-own : goal.returns-clause-own
unfolding fold_term Rattle.alg_terms.specs.declared.term.Term.TheBlock.hidden-the_row-Term-0 denote.Hole.Carrier.hidden
returns-clause-own g c = λ x y. (λ h. h, λ h. h)

pub returns-clause-goals : goal.returns-clause-goals
unfolding fold_term Rattle.alg_terms.specs.declared.term.Term.TheBlock.hidden-the_row-Term-0 denote.Hole.Carrier.hidden
returns-clause-goals g c = λ x y. (λ h. h, λ h. h)
