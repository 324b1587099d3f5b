use Rattle.std.proofs.Common.{◌≡◌, refl, arith}
use Rattle.std.specs.Prelude.{pos}
use Rattle.std.proofs.lemmas.Int.{ints}
use Rattle.alg_terms.specs.Nodes.{fold_term}
use Rattle.alg_universe.proofs.tests.hypotheses_hold_or_not.Goals as goal

pub returns-clause-square : goal.returns-clause-square
unfolding fold_term Rattle.alg_terms.specs.declared.term.Term.TheBlock.hidden-the_row-Term-0 denote.Hole.Carrier.hidden
returns-clause-square c = refl

pub returns-clause-other_square : goal.returns-clause-other_square
unfolding fold_term Rattle.alg_terms.specs.declared.term.Term.TheBlock.hidden-the_row-Term-0 denote.Hole.Carrier.hidden
returns-clause-other_square c = λ h. let nine : pos 9 ≡ pos 4 = h in omega (arith, ints, nine)

pub returns-clause-different : goal.returns-clause-different
unfolding fold_term Rattle.alg_terms.specs.declared.term.Term.TheBlock.hidden-the_row-Term-0 denote.Hole.Carrier.hidden
returns-clause-different c = λ h. cc

pub returns-clause-equal : goal.returns-clause-equal
unfolding fold_term Rattle.alg_terms.specs.declared.term.Term.TheBlock.hidden-the_row-Term-0 denote.Hole.Carrier.hidden
returns-clause-equal c = λ h. h refl
