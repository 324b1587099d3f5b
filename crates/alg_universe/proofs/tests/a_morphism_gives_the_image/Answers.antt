use Rattle.std.proofs.Common.{refl}
use Rattle.alg_terms.specs.Nodes.{fold_term}
use Rattle.alg_universe.proofs.tests.a_morphism_gives_the_image.Goals as goal

pub returns : goal.returns
unfolding fold_term Rattle.alg_terms.specs.declared.term.Term.TheBlock.hidden-the_row-Term-0 denote.Hole.Carrier.hidden
returns c = refl
