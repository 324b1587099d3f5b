-- A term without faults keeps the rules of terms once its names are resolved.
use Rattle.std.proofs.Common.{◌≡◌, ℕ, ◌+◌, max, Bool, false, List, [], ◌++◌, Option, None, Some, refl, ap, arith}
use Rattle.std.specs.Option.{option_or}
use Rattle.std.proofs.lemmas.Bool.Decides.{nat_tests}
use Rattle.alg_terms.specs.declared.file.File.{File}
use Rattle.alg_terms.specs.declared.term.Term.{Term}
use Rattle.alg_terms.specs.Nodes.{fold_term, EachNode}
use Rattle.alg_terms.specs.Sorts.{own_sort, Agree}
use Rattle.alg_terms.specs.Term.{depth_of}
use Rattle.alg_terms.specs.TermRules.{IsInRange}
use Rattle.alg_tokens.specs.declared.token.Refusal.{Refusal}
use Rattle.alg_reader.specs.declared.raw.RawNode.{RawNode}
use Rattle.alg_reader.specs.RawTerms as raw
use Rattle.alg_reader.specs.RawTerms.{Node, fold_under, of_parts}
use Rattle.alg_reader.proofs.RawViews.{AreRelated, related}
use Rattle.alg_typing.specs.NameFaults.{node_name}
use Rattle.alg_typing.specs.Resolved.{node_term}
use Rattle.alg_typing.specs.TermSorts.{Sorted, differ, node_sorted}
use Rattle.alg_typing.proofs.GrowingTerms.{or_same}
use Rattle.alg_typing.proofs.NumbersInRange.{parts_empty, var_number, hom_number}

-- own sorts that don't differ agree
pub agree_if : (a b : Option ℕ) → differ a b ≡ false → Agree a b
agree_if None b h = tt
agree_if (Some s) None h = tt
agree_if (Some s) (Some t) h = grind (arith, nat_tests)

module _ (file : File) (text : List ℕ) where
  -- the term of a node
  abbrev pub resolved : ℕ → RawNode → Term
  resolved = fold_under (node_term file text)

  -- the faults of the names of a node and of what is below it
  abbrev node_faults : ℕ → Node (List Refusal) → List Refusal
  node_faults head node = node_name file text node ++ of_parts node

  abbrev pub names_under : ℕ → RawNode → List Refusal
  names_under = fold_under node_faults

  -- the node with its own sort and its faults
  abbrev pub sorted_under : Bool → ℕ → RawNode → Sorted
  sorted_under may_divide = fold_under (node_sorted file text may_divide)

  abbrev InRange : Term → Type 0
  InRange t = EachNode (IsInRange file) t

  both_in_range : (head k l : ℕ) (t u : RawNode) → (names_under k t ≡ [] → InRange (resolved k t)) →
      (names_under l u ≡ [] → InRange (resolved l u)) → names_under k t ++ names_under l u ≡ [] →
      Unit {0} × InRange (resolved k t) × InRange (resolved l u)
  both_in_range head k l t u left right h =
      let (front, back) = parts_empty (names_under k t) (names_under l u) h in (tt, left front, right back)

  range_nodes : AreRelated node_faults (node_term file text) (λ faults t. faults ≡ [] → InRange t)
  unfolding EachNode
      Rattle.alg_terms.specs.declared.term.Term.TheBlock.hidden-the_row-Term-0 denote.Hole.Carrier.hidden
  range_nodes = record {
    name = λ head span h. var_number file text span (parts_empty _ _ h).0;
    literal = λ head n h. tt;
    opposite = λ head k t below h. (tt, below h);
    power = λ head k t n below h. (tt, below h);
    image = λ head k t span below h.
        let (here, part) = parts_empty _ (names_under k t) h in (hom_number file text span here, below part);
    sum = both_in_range;
    difference = both_in_range;
    product = both_in_range;
    quotient = both_in_range;
  }

  -- the term of a node without faults of names is in range
  pub in_range : (head : ℕ) (node : RawNode) → names_under head node ≡ [] → InRange (resolved head node)
  in_range = related _ _ _ range_nodes

  both_own : (may_divide : Bool) (head k l : ℕ) (t u : RawNode) →
      (sorted_under may_divide k t).own ≡ own_sort file (resolved k t) →
      (sorted_under may_divide l u).own ≡ own_sort file (resolved l u) →
      option_or (sorted_under may_divide k t).own (sorted_under may_divide l u).own
      ≡ option_or (own_sort file (resolved k t)) (own_sort file (resolved l u))
  both_own may_divide head k l t u left right = or_same _ _ _ _ left right

  own_nodes : (may_divide : Bool) →
      AreRelated (node_sorted file text may_divide) (node_term file text) (λ s t. s.own ≡ own_sort file t)
  unfolding fold_term
      Rattle.alg_terms.specs.declared.term.Term.TheBlock.hidden-the_row-Term-0 denote.Hole.Carrier.hidden
  own_nodes may_divide = record {
    name = λ head span. refl;
    literal = λ head n. refl;
    opposite = λ head k t same. same;
    power = λ head k t n same. same;
    image = λ head k t span same. refl;
    sum = both_own may_divide;
    difference = both_own may_divide;
    product = both_own may_divide;
    quotient = both_own may_divide;
  }

  -- its own sort is that of the node
  pub own_resolved : (may_divide : Bool) (head : ℕ) (node : RawNode) →
      (sorted_under may_divide head node).own ≡ own_sort file (resolved head node)
  own_resolved may_divide = related _ _ _ (own_nodes may_divide)

  both_deep : (head k l : ℕ) (t u : RawNode) → depth_of (resolved k t) ≡ fold_under raw.node_depth k t →
      depth_of (resolved l u) ≡ fold_under raw.node_depth l u →
      1 + max (depth_of (resolved k t)) (depth_of (resolved l u))
      ≡ 1 + max (fold_under raw.node_depth k t) (fold_under raw.node_depth l u)
  both_deep head k l t u left right = λ i. 1 + max (left i) (right i)

  depth_nodes : AreRelated (node_term file text) raw.node_depth (λ t depth. depth_of t ≡ depth)
  unfolding fold_term
      Rattle.alg_terms.specs.declared.term.Term.TheBlock.hidden-the_row-Term-0 denote.Hole.Carrier.hidden
  depth_nodes = record {
    name = λ head span. refl;
    literal = λ head n. refl;
    opposite = λ head k t same. ap (λ d. 1 + d) same;
    power = λ head k t n same. ap (λ d. 1 + d) same;
    image = λ head k t span same. ap (λ d. 1 + d) same;
    sum = both_deep;
    difference = both_deep;
    product = both_deep;
    quotient = both_deep;
  }

  -- and so is its depth
  pub depth_resolved : (head : ℕ) (node : RawNode) → depth_of (resolved head node) ≡ fold_under raw.node_depth head node
  depth_resolved = related _ _ _ depth_nodes
