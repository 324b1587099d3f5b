-- Whether two terms are the same tree.
use Rattle.std.specs.Prelude.{Bool, false, ◌&&◌, ◌==◌}
use Rattle.std.specs.Ordering.{int_eq}
use Rattle.alg_terms.specs.declared.term.Term.{Term, more_of-Term, Var, Int, Neg', Add', Sub', Mul', Div', Pow', Hom'}

-- the two terms are the same tree
unfoldable pub same_tree : Term → Term → Bool
same_tree (Var k) (Var l) = k == l
same_tree (Int m) (Int n) = int_eq m n
same_tree (Neg' _ (more_of-Term t _)) (Neg' _ (more_of-Term u _)) = same_tree t u
same_tree (Add' _ (more_of-Term t _) _ (more_of-Term t' _)) (Add' _ (more_of-Term u _) _ (more_of-Term u' _)) =
    same_tree t u && same_tree t' u'
same_tree (Sub' _ (more_of-Term t _) _ (more_of-Term t' _)) (Sub' _ (more_of-Term u _) _ (more_of-Term u' _)) =
    same_tree t u && same_tree t' u'
same_tree (Mul' _ (more_of-Term t _) _ (more_of-Term t' _)) (Mul' _ (more_of-Term u _) _ (more_of-Term u' _)) =
    same_tree t u && same_tree t' u'
same_tree (Div' _ (more_of-Term t _) _ (more_of-Term t' _)) (Div' _ (more_of-Term u _) _ (more_of-Term u' _)) =
    same_tree t u && same_tree t' u'
same_tree (Pow' _ (more_of-Term t _) m) (Pow' _ (more_of-Term u _) n) = same_tree t u && (m == n)
same_tree (Hom' f _ (more_of-Term t _)) (Hom' g _ (more_of-Term u _)) = (f == g) && same_tree t u
same_tree _ _ = false
