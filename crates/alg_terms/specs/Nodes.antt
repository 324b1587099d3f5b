-- Terms node by node. `Term-F` is one node, with something in the place of each part: a definition over terms says
-- what it says of one node, and takes one of the ways below to go over all nodes.
use Rattle.alg_terms.specs.declared.term.Term.{Term, more_of-Term, Var, Int, Neg', Add', Sub', Mul', Div', Pow', Hom'}
use Rattle.alg_terms.specs.declared.term.Term.TheOpen.{Term-F}

-- what a term comes to, where `node` says what one node comes to by what its parts come to
unfoldable pub fold_term : {A : Type 0} → (Term-F A → A) → Term → A
fold_term node (Var k) = node (Term-F.Var k)
fold_term node (Int n) = node (Term-F.Int n)
fold_term node (Neg' _ (more_of-Term t _)) = node (Term-F.Neg (fold_term node t))
fold_term node (Add' _ (more_of-Term t _) _ (more_of-Term u _)) =
    node (Term-F.Add (fold_term node t) (fold_term node u))
fold_term node (Sub' _ (more_of-Term t _) _ (more_of-Term u _)) =
    node (Term-F.Sub (fold_term node t) (fold_term node u))
fold_term node (Mul' _ (more_of-Term t _) _ (more_of-Term u _)) =
    node (Term-F.Mul (fold_term node t) (fold_term node u))
fold_term node (Div' _ (more_of-Term t _) _ (more_of-Term u _)) =
    node (Term-F.Div (fold_term node t) (fold_term node u))
fold_term node (Pow' _ (more_of-Term t _) n) = node (Term-F.Pow (fold_term node t) n)
fold_term node (Hom' f _ (more_of-Term t _)) = node (Term-F.Hom f (fold_term node t))

-- P holds of each node of a term
unfoldable pub EachNode : (Term-F Term → Type 0) → Term → Type 0
EachNode P (Var k) = P (Term-F.Var k)
EachNode P (Int n) = P (Term-F.Int n)
EachNode P (Neg' _ (more_of-Term t _)) = P (Term-F.Neg t) × EachNode P t
EachNode P (Add' _ (more_of-Term t _) _ (more_of-Term u _)) = P (Term-F.Add t u) × EachNode P t × EachNode P u
EachNode P (Sub' _ (more_of-Term t _) _ (more_of-Term u _)) = P (Term-F.Sub t u) × EachNode P t × EachNode P u
EachNode P (Mul' _ (more_of-Term t _) _ (more_of-Term u _)) = P (Term-F.Mul t u) × EachNode P t × EachNode P u
EachNode P (Div' _ (more_of-Term t _) _ (more_of-Term u _)) = P (Term-F.Div t u) × EachNode P t × EachNode P u
EachNode P (Pow' _ (more_of-Term t _) n) = P (Term-F.Pow t n) × EachNode P t
EachNode P (Hom' f _ (more_of-Term t _)) = P (Term-F.Hom f t) × EachNode P t
