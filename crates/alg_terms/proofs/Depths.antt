-- The depths of terms.
use Rattle.std.proofs.Common.{◌≤◌, arith}
use Rattle.alg_terms.specs.declared.term.Term.{Term, more_of-Term, Var, Int, Neg', Add', Sub', Mul', Div', Pow', Hom'}
use Rattle.alg_terms.specs.Nodes.{fold_term}
use Rattle.alg_terms.specs.Term.{depth_of}

pub depth_positive : (t : Term) → 1 ≤ depth_of t
unfolding fold_term
depth_positive (Var k) = omega arith
depth_positive (Int n) = omega arith
depth_positive (Neg' _ (more_of-Term t _)) = omega arith
depth_positive (Add' _ (more_of-Term t _) _ (more_of-Term u _)) = omega arith
depth_positive (Sub' _ (more_of-Term t _) _ (more_of-Term u _)) = omega arith
depth_positive (Mul' _ (more_of-Term t _) _ (more_of-Term u _)) = omega arith
depth_positive (Div' _ (more_of-Term t _) _ (more_of-Term u _)) = omega arith
depth_positive (Pow' _ (more_of-Term t _) n) = omega arith
depth_positive (Hom' f _ (more_of-Term t _)) = omega arith
