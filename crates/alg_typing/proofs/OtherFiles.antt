-- What holds of each node of a term in one file holds of it in another.
use Rattle.std.proofs.Common.{◌≡◌, ℕ, List, ◌∷◌, sym, subst, All}
use Rattle.std.proofs.lemmas.List.Elements.{All-cons}
use Rattle.alg_terms.specs.declared.file.File.{File}
use Rattle.alg_terms.specs.declared.term.Term.{Term}
use Rattle.alg_terms.specs.declared.term.Term.TheOpen.{Term-F}
use Rattle.alg_terms.specs.Members.{source_of}
use Rattle.alg_terms.specs.Nodes.{EachNode}
use Rattle.alg_terms.specs.Sorts.{EachNodeAt}
use Rattle.alg_terms.proofs.Views.{Leaf, Unary, Binary, leaf, unary, binary, leaf_node, binary_node, induction, nodes_binary, nodes_at_leaf, nodes_at_binary}

-- from each node of a term in one file, at its final sort and below the morphisms over it, to the node there in another
-- file: R holds of each node, and of a morphism over which R holds that it is known and has its source in both
module _ (old new : File) (R : Term-F Term → Type 0) (IsSort IsHom : ℕ → Type 0)
    (known : (f : ℕ) (t : Term) → R (Term-F.Hom f t) →
    IsHom f × IsSort (source_of new f) × (source_of new f ≡ source_of old f))
    (P Q : ℕ → List ℕ → Term-F Term → Type 0)
    (node : (s : ℕ) (above : List ℕ) (n : Term-F Term) → IsSort s → All IsHom above → P s above n → Q s above n) where
  abbrev GoesOver : Term → Type 0
  GoesOver t = (s : ℕ) (above : List ℕ) → IsSort s → All IsHom above → EachNode R t → EachNodeAt old P s above t →
      EachNodeAt new Q s above t

  over_leaf : (l : Leaf) → GoesOver (leaf l)
  over_leaf l s above low up r h =
      (nodes_at_leaf new Q s above l).1 (node s above (leaf_node l) low up ((nodes_at_leaf old P s above l).0 h))

  over_unary : (o : Unary) (t : Term) → GoesOver t → GoesOver (unary o t)
  unfolding EachNode EachNodeAt
      Rattle.alg_terms.specs.declared.term.Term.TheBlock.hidden-the_row-Term-0 denote.Hole.Carrier.hidden
  over_unary Unary.Opposite t part s above low up r h =
      (node s above (Term-F.Neg t) low up h.0, part s above low up r.1 h.1)
  over_unary (Unary.Power n) t part s above low up r h =
      (node s above (Term-F.Pow t n) low up h.0, part s above low up r.1 h.1)
  over_unary (Unary.Image f) t part s above low up r h =
      let (hom, sort, same) = known f t r.0 in
      let There : ℕ → Type 0 = λ s. EachNodeAt old P s (f ∷ above) t in (
        node s above (Term-F.Hom f t) low up h.0,
        part (source_of new f) (f ∷ above) sort (All-cons IsHom f above hom up) r.1 (subst There (sym same) h.1),
      )

  over_binary : (o : Binary) (t u : Term) → GoesOver t → GoesOver u → GoesOver (binary o t u)
  over_binary o t u left right s above low up r h =
      let (r_here, r_left, r_right) = (nodes_binary R o t u).0 r in
      let (here, h_left, h_right) = (nodes_at_binary old P s above o t u).0 h in
      (nodes_at_binary new Q s above o t u).1 (
        node s above (binary_node o t u) low up here,
        left s above low up r_left h_left,
        right s above low up r_right h_right,
      )

  pub nodes_go_over : (t : Term) → GoesOver t
  nodes_go_over = induction GoesOver (record { of_leaf = over_leaf; of_unary = over_unary; of_binary = over_binary })
