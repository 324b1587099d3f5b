-- Terms of a file that are in range in its front keep their rules there.
use Rattle.std.proofs.Common.{◌≡◌, ◌<◌, ℕ, [], length, sym, subst}
use Rattle.std.specs.Prelude.{All}
use Rattle.std.proofs.lemmas.List.Elements.{All-head, All-tail}
use Rattle.alg_terms.specs.declared.file.File.{File}
use Rattle.alg_terms.specs.declared.term.Term.{Term}
use Rattle.alg_terms.specs.declared.term.Term.TheOpen.{Term-F}
use Rattle.alg_terms.specs.Members.{source_of}
use Rattle.alg_terms.specs.Nodes.{fold_term, EachNode}
use Rattle.alg_terms.specs.Occurring.{node_vars, node_homs}
use Rattle.alg_terms.specs.Sorts.{own_sort}
use Rattle.alg_terms.specs.TermRules.{IsTerm, IsInRange}
use Rattle.alg_terms.proofs.Views.{Leaf, Unary, Binary, leaf, unary, binary, induction, nodes_binary, range_binary, vars_binary, homs_binary}
use Rattle.alg_terms.proofs.JoinedLists.{all_left, all_right}
use Rattle.alg_typing.proofs.Growing.{Grows, source_same}
use Rattle.alg_typing.proofs.GrowingTerms.{own_same, parts_kept, arguments_kept}
use Rattle.alg_typing.proofs.SortedTerms.{KeepsRules}

module _ (g : File) where
  abbrev low_var : ℕ → Type 0
  low_var k = k < length g.vars

  abbrev low_hom : ℕ → Type 0
  low_hom f = f < length g.homs

  -- a term whose variables and morphisms are of the front is in range there
  abbrev IsLow : Term → Type 0
  IsLow t = All low_var (fold_term node_vars t) → All low_hom (fold_term node_homs t) → EachNode (IsInRange g) t

  low_leaf : (l : Leaf) → IsLow (leaf l)
  unfolding fold_term EachNode
  low_leaf (Leaf.Variable k) v h = All-head low_var k [] v
  low_leaf (Leaf.Literal n) v h = tt

  low_unary : (o : Unary) (t : Term) → IsLow t → IsLow (unary o t)
  unfolding fold_term EachNode Rattle.alg_terms.specs.declared.term.Term.TheBlock.hidden-the_row-Term-0
      denote.Hole.Carrier.hidden
  low_unary Unary.Opposite t low v h = (tt, low v h)
  low_unary (Unary.Power n) t low v h = (tt, low v h)
  low_unary (Unary.Image f) t low v h =
      (All-head low_hom f (fold_term node_homs t) h, low v (All-tail low_hom f (fold_term node_homs t) h))

  low_binary : (o : Binary) (t u : Term) → IsLow t → IsLow u → IsLow (binary o t u)
  low_binary o t u low low' v h =
      let vars = subst (All low_var) (vars_binary o t u) v in
      let homs = subst (All low_hom) (homs_binary o t u) h in
      (nodes_binary (IsInRange g) o t u).1 (
        range_binary g o t u,
        low (all_left low_var _ _ vars) (all_left low_hom _ _ homs),
        low' (all_right low_var _ _ vars) (all_right low_hom _ _ homs),
      )

  pub in_range : (t : Term) → IsLow t
  in_range = induction IsLow (record { of_leaf = low_leaf; of_unary = low_unary; of_binary = low_binary })

module _ (g file : File) (grows : Grows g file) where
  own_back : (t : Term) → EachNode (IsInRange g) t → own_sort g t ≡ own_sort file t
  own_back t r = sym (own_same g file grows t r)

  source_back : (f : ℕ) (t : Term) → IsInRange g (Term-F.Hom f t) → source_of g f ≡ source_of file f
  source_back f t r = sym (source_same g file grows f r)

  -- a term of the file keeps the rules of terms in the front
  pub rules : (t : Term) → EachNode (IsInRange g) t → IsTerm file t → KeepsRules g t
  rules t range h = (
    h.exponents,
    parts_kept (IsInRange g) file g own_back source_back t range h.parts,
    arguments_kept (IsInRange g) file g own_back source_back t range h.arguments,
  )
