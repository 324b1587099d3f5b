-- What holds of each node of a term follows from what holds of each node.
use Rattle.std.proofs.Common.{ℕ, List}
use Rattle.alg_terms.specs.declared.file.File.{File}
use Rattle.alg_terms.specs.declared.term.Term.{Term}
use Rattle.alg_terms.specs.declared.term.Term.TheOpen.{Term-F}
use Rattle.alg_terms.specs.Nodes.{EachNode}
use Rattle.alg_terms.specs.Sorts.{EachNodeAt}
use Rattle.alg_terms.proofs.Views.{Leaf, Unary, Binary, leaf_node, unary_node, binary_node, each_leaf, each_unary, each_binary, induction, nodes_leaf, nodes_unary, nodes_binary, nodes_at_leaf, nodes_at_unary, nodes_at_binary, below}

-- P holds of each node of the parts of a node
abbrev pub OfParts : (Term-F Term → Type 0) → Term-F Term → Type 0
OfParts P (Term-F.Var k) = Unit {0}
OfParts P (Term-F.Int n) = Unit {0}
OfParts P (Term-F.Neg t) = EachNode P t
OfParts P (Term-F.Add t u) = EachNode P t × EachNode P u
OfParts P (Term-F.Sub t u) = EachNode P t × EachNode P u
OfParts P (Term-F.Mul t u) = EachNode P t × EachNode P u
OfParts P (Term-F.Div t u) = EachNode P t × EachNode P u
OfParts P (Term-F.Pow t n) = EachNode P t
OfParts P (Term-F.Hom f t) = EachNode P t

module _ (P : Term-F Term → Type 0) where
  parts_leaf : (l : Leaf) → OfParts P (leaf_node l)
  parts_leaf = each_leaf (λ l. OfParts P (leaf_node l)) (λ k. tt) (λ n. tt)

  parts_unary : (o : Unary) (t : Term) → EachNode P t → OfParts P (unary_node o t)
  parts_unary o t h = each_unary (λ o. OfParts P (unary_node o t)) h (λ n. h) (λ f. h) o

  parts_binary : (o : Binary) (t u : Term) → EachNode P t → EachNode P u → OfParts P (binary_node o t u)
  parts_binary o t u h h' = each_binary (λ o. OfParts P (binary_node o t u)) (h, h') (h, h') (h, h') (h, h') o

-- from two facts of each node, the first of the nodes below it too
module _ (P Q R : Term-F Term → Type 0) (node : (n : Term-F Term) → P n → OfParts P n → Q n → R n) where
  abbrev Implied : Term → Type 0
  Implied t = EachNode P t → EachNode Q t → EachNode R t

  pub nodes_imply : (t : Term) → Implied t
  nodes_imply = induction Implied (record {
    of_leaf = λ l p q. (nodes_leaf R l).1 (node (leaf_node l) ((nodes_leaf P l).0 p) (parts_leaf P l)
        ((nodes_leaf Q l).0 q));
    of_unary = λ o t part p q.
        let (p_here, p_part) = (nodes_unary P o t).0 p in
        let (q_here, q_part) = (nodes_unary Q o t).0 q in
        (nodes_unary R o t).1
        (node (unary_node o t) p_here (parts_unary P o t p_part) q_here, part p_part q_part);
    of_binary = λ o t u left right p q.
        let (p_here, p_left, p_right) = (nodes_binary P o t u).0 p in
        let (q_here, q_left, q_right) = (nodes_binary Q o t u).0 q in
        (nodes_binary R o t u).1 (
          node (binary_node o t u) p_here (parts_binary P o t u p_left p_right) q_here,
          left p_left q_left,
          right p_right q_right,
        );
  })

-- from a fact of each node, and one at its final sort and below the morphisms over it
module _ (file : File) (P : Term-F Term → Type 0) (Q R : ℕ → List ℕ → Term-F Term → Type 0)
    (node : (s : ℕ) (above : List ℕ) (n : Term-F Term) → P n → Q s above n → R s above n) where
  abbrev ImpliedAt : Term → Type 0
  ImpliedAt t = (s : ℕ) (above : List ℕ) → EachNode P t → EachNodeAt file Q s above t → EachNodeAt file R s above t

  pub nodes_at_imply : (t : Term) → ImpliedAt t
  nodes_at_imply = induction ImpliedAt (record {
    of_leaf = λ l s above p q.
        (nodes_at_leaf file R s above l).1
        (node s above (leaf_node l) ((nodes_leaf P l).0 p) ((nodes_at_leaf file Q s above l).0 q));
    of_unary = λ o t part s above p q.
        let (p_here, p_part) = (nodes_unary P o t).0 p in
        let (q_here, q_part) = (nodes_at_unary file Q s above o t).0 q in
        let (sort, path) = below file o s above in
        (nodes_at_unary file R s above o t).1
        (node s above (unary_node o t) p_here q_here, part sort path p_part q_part);
    of_binary = λ o t u left right s above p q.
        let (p_here, p_left, p_right) = (nodes_binary P o t u).0 p in
        let (q_here, q_left, q_right) = (nodes_at_binary file Q s above o t u).0 q in
        (nodes_at_binary file R s above o t u).1 (
          node s above (binary_node o t u) p_here q_here,
          left s above p_left q_left,
          right s above p_right q_right,
        );
  })

-- what holds of every node holds of each node of a term
pub nodes_all : (P : Term-F Term → Type 0) → ((n : Term-F Term) → P n) → (t : Term) → EachNode P t
nodes_all P all = induction (EachNode P) (record {
  of_leaf = λ l. (nodes_leaf P l).1 (all (leaf_node l));
  of_unary = λ o t part. (nodes_unary P o t).1 (all (unary_node o t), part);
  of_binary = λ o t u left right. (nodes_binary P o t u).1 (all (binary_node o t u), left, right);
})

pub nodes_at_all : (file : File) (P : ℕ → List ℕ → Term-F Term → Type 0) →
    ((s : ℕ) (above : List ℕ) (n : Term-F Term) → P s above n) → (t : Term) (s : ℕ) (above : List ℕ) →
    EachNodeAt file P s above t
nodes_at_all file P all = induction (λ t. (s : ℕ) (above : List ℕ) → EachNodeAt file P s above t) (record {
  of_leaf = λ l s above. (nodes_at_leaf file P s above l).1 (all s above (leaf_node l));
  of_unary = λ o t part s above.
      let (sort, path) = below file o s above in
      (nodes_at_unary file P s above o t).1 (all s above (unary_node o t), part sort path);
  of_binary = λ o t u left right s above. (nodes_at_binary file P s above o t u).1
      (all s above (binary_node o t u), left s above, right s above);
})
