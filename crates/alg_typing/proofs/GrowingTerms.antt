-- Terms in a file with more members: they have the own sorts and keep the rules that they had.
use Rattle.std.proofs.Common.{◌≡◌, ℕ, Option, Some, refl, sym, ap, ◌∙◌, arith}
use Rattle.std.specs.Option.{option_or}
use Rattle.alg_terms.specs.declared.file.File.{File}
use Rattle.alg_terms.specs.declared.term.Term.{Term}
use Rattle.alg_terms.specs.declared.term.Term.TheOpen.{Term-F}
use Rattle.alg_terms.specs.Members.{source_of}
use Rattle.alg_terms.specs.Nodes.{fold_term, EachNode}
use Rattle.alg_terms.specs.Sorts.{own_sort, Agree}
use Rattle.alg_terms.specs.TermRules.{IsTerm, IsInRange, HasAgreeingParts, HasFittingArgument}
use Rattle.alg_terms.proofs.EveryNode.{OfParts, nodes_imply}
use Rattle.alg_terms.proofs.Views.{Leaf, Unary, Binary, leaf, unary, binary, induction, nodes_binary, own_binary}
use Rattle.alg_typing.proofs.Growing.{Grows, source_same, target_same, sort_same, agree_same}

pub or_same : (a b a' b' : Option ℕ) → a' ≡ a → b' ≡ b → option_or a' b' ≡ option_or a b
or_same a b a' b' p q = ap (λ s. option_or s b') p ∙ ap (λ s. option_or a s) q

-- where terms of which R holds have the same own sorts in two files, and their morphisms the same sources
module _ (R : Term-F Term → Type 0) (old new : File)
    (own : (t : Term) → EachNode R t → own_sort new t ≡ own_sort old t)
    (source : (f : ℕ) (t : Term) → R (Term-F.Hom f t) → source_of new f ≡ source_of old f) where
  agree_kept : (t u : Term) → EachNode R t × EachNode R u → Agree (own_sort old t) (own_sort old u) →
      Agree (own_sort new t) (own_sort new u)
  agree_kept t u parts h = agree_same _ _ _ _ (own t parts.0) (own u parts.1) h

  parts_node : (n : Term-F Term) → R n → OfParts R n → HasAgreeingParts old n → HasAgreeingParts new n
  parts_node (Term-F.Add t u) r parts h = agree_kept t u parts h
  parts_node (Term-F.Sub t u) r parts h = agree_kept t u parts h
  parts_node (Term-F.Mul t u) r parts h = agree_kept t u parts h
  parts_node (Term-F.Div t u) r parts h = agree_kept t u parts h
  parts_node _ r parts h = tt

  -- parts that agreed agree still
  pub parts_kept : (t : Term) → EachNode R t → EachNode (HasAgreeingParts old) t → EachNode (HasAgreeingParts new) t
  parts_kept = nodes_imply R (HasAgreeingParts old) (HasAgreeingParts new) parts_node

  argument_node : (n : Term-F Term) → R n → OfParts R n → HasFittingArgument old n → HasFittingArgument new n
  argument_node (Term-F.Hom f t) r part h = agree_same _ _ _ _ (own t part) (ap Some (source f t r)) h
  argument_node _ r part h = tt

  -- arguments that fitted fit still
  pub arguments_kept : (t : Term) → EachNode R t → EachNode (HasFittingArgument old) t →
      EachNode (HasFittingArgument new) t
  arguments_kept = nodes_imply R (HasFittingArgument old) (HasFittingArgument new) argument_node

module _ (old new : File) (grows : Grows old new) where
  abbrev Same : Term → Type 0
  Same t = EachNode (IsInRange old) t → own_sort new t ≡ own_sort old t

  same_leaf : (l : Leaf) → Same (leaf l)
  unfolding fold_term EachNode
  same_leaf (Leaf.Variable k) r = ap Some (sort_same old new grows k r)
  same_leaf (Leaf.Literal n) r = refl

  same_unary : (o : Unary) (t : Term) → Same t → Same (unary o t)
  unfolding fold_term EachNode
      Rattle.alg_terms.specs.declared.term.Term.TheBlock.hidden-the_row-Term-0 denote.Hole.Carrier.hidden
  same_unary Unary.Opposite t same r = same r.1
  same_unary (Unary.Power n) t same r = same r.1
  same_unary (Unary.Image f) t same r = ap Some (target_same old new grows f r.0)

  same_binary : (o : Binary) (t u : Term) → Same t → Same u → Same (binary o t u)
  same_binary o t u left right r =
      let (here, first, second) = (nodes_binary (IsInRange old) o t u).0 r in
      own_binary new o t u ∙ or_same _ _ _ _ (left first) (right second) ∙ sym (own_binary old o t u)

  -- a term in range has the own sort that it had
  pub own_same : (t : Term) → Same t
  own_same = induction Same (record { of_leaf = same_leaf; of_unary = same_unary; of_binary = same_binary })

  -- a term in range is in range still
  range_node : (n : Term-F Term) → IsInRange old n → OfParts (IsInRange old) n → IsInRange old n → IsInRange new n
  range_node (Term-F.Var k) r parts h = omega (arith, grows.more_vars)
  range_node (Term-F.Hom f t) r parts h = omega (arith, grows.more_homs, r)
  range_node _ r parts h = tt

  pub range_same : (t : Term) → EachNode (IsInRange old) t → EachNode (IsInRange new) t
  range_same t r = nodes_imply (IsInRange old) (IsInRange old) (IsInRange new) range_node t r r

  same_source : (f : ℕ) (t : Term) → IsInRange old (Term-F.Hom f t) → source_of new f ≡ source_of old f
  same_source f t r = source_same old new grows f r

  -- a term of the file is one of the grown file
  pub term_same : (t : Term) → IsTerm old t → IsTerm new t
  term_same t h = record {
    indices = range_same t h.indices;
    literals = h.literals;
    exponents = h.exponents;
    depth = h.depth;
    parts = parts_kept (IsInRange old) old new own_same same_source t h.indices h.parts;
    arguments = arguments_kept (IsInRange old) old new own_same same_source t h.indices h.arguments;
  }
