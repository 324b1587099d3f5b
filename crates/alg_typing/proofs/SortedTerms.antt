-- A term whose sorts have no faults keeps the rules of literals, exponents and sorts once it is resolved.
use Rattle.std.proofs.Common.{◌≡◌, ◌≤◌, ℕ, ℤ, pos, Bool, false, List, [], ◌++◌, Option, Some, subst, arith}
use Rattle.std.specs.Prelude.{◌≤ℤ◌, nat_lt}
use Rattle.std.specs.Int.RustNames.{unsigned_abs}
use Rattle.std.specs.List.{AllByRecursion}
use Rattle.std.proofs.lemmas.Bool.Decides.{nat_tests}
use Rattle.alg_terms.specs.declared.file.File.{File}
use Rattle.alg_terms.specs.Limits.{MAX_LITERAL, MAX_EXPONENT}
use Rattle.alg_terms.specs.declared.term.Term.{Term}
use Rattle.alg_terms.specs.Members.{source_of}
use Rattle.alg_terms.specs.Nodes.{EachNode}
use Rattle.alg_terms.specs.Sorts.{own_sort, Agree}
use Rattle.alg_terms.specs.TermRules.{HasLiteral, HasExponent, HasAgreeingParts, HasFittingArgument}
use Rattle.alg_tokens.specs.declared.code.Code.TheVariants as code
use Rattle.alg_reader.specs.declared.raw.RawNode.{RawNode}
use Rattle.alg_reader.specs.declared.raw.RawNumber.{RawNumber}
use Rattle.alg_reader.specs.RawTerms.{Node, fold_under, of_parts, literals_of_node}
use Rattle.alg_reader.proofs.RawViews.{AreRelated, related}
use Rattle.alg_typing.specs.Resolved.{number_at, node_term}
use Rattle.alg_typing.specs.TermSorts.{Sorted, differ, exponent, operator, node_sorted}
use Rattle.alg_typing.proofs.NumbersInRange.{parts_empty, no_fault}
use Rattle.alg_typing.proofs.FreshNames.{recursion_left, recursion_right}
use Rattle.alg_typing.proofs.Resolving.{agree_if, resolved, sorted_under, own_resolved}

-- an exponent without fault is at most the greatest
pub exponent_in_range : (n : RawNumber) → exponent n ≡ [] → unsigned_abs n.value ≤ MAX_EXPONENT
exponent_in_range n h =
    let low : nat_lt MAX_EXPONENT (unsigned_abs n.value) ≡ false = no_fault _ code.Exponent n.at h in
    grind (arith, nat_tests)

-- the rules of exponents and sorts
abbrev pub KeepsRules : File → Term → Type 0
KeepsRules file t = EachNode HasExponent t × EachNode (HasAgreeingParts file) t × EachNode (HasFittingArgument file) t

module _ (file : File) (text : List ℕ) where
  -- literals in range
  abbrev InRange : List ℤ → Type 0
  InRange = AllByRecursion (λ n. (pos 0 ≤ℤ n) × (n ≤ℤ MAX_LITERAL))

  abbrev HaveLiterals : Term → Type 0
  HaveLiterals = EachNode HasLiteral

  abbrev node_literals : ℕ → Node (List ℤ) → List ℤ
  node_literals head node = literals_of_node node ++ of_parts node

  abbrev Stay : ℕ → RawNode → Type 0
  Stay k t = InRange (fold_under node_literals k t) → HaveLiterals (resolved file text k t)

  both_stay : (head k l : ℕ) (t u : RawNode) → Stay k t → Stay l u →
      InRange (fold_under node_literals k t ++ fold_under node_literals l u) →
      Unit {0} × HaveLiterals (resolved file text k t) × HaveLiterals (resolved file text l u)
  both_stay head k l t u left right h = (tt, left (recursion_left _ _ _ h), right (recursion_right _ _ _ h))

  literal_nodes : AreRelated node_literals (node_term file text) (λ literals t. InRange literals → HaveLiterals t)
  unfolding EachNode
      Rattle.alg_terms.specs.declared.term.Term.TheBlock.hidden-the_row-Term-0 denote.Hole.Carrier.hidden
  literal_nodes = record {
    name = λ head span h. tt;
    literal = λ head n h. h.0;
    opposite = λ head k t below h. (tt, below h);
    power = λ head k t n below h. (tt, below h);
    image = λ head k t span below h. (tt, below h);
    sum = both_stay;
    difference = both_stay;
    product = both_stay;
    quotient = both_stay;
  }

  -- stay so
  pub literals : (head : ℕ) (node : RawNode) → Stay head node
  literals = related _ _ _ literal_nodes

  -- own sorts of two nodes that don't differ agree once they are resolved
  pub agree : (b : Bool) (k : ℕ) (t : RawNode) (l : ℕ) (u : RawNode) →
      differ (sorted_under file text b k t).own (sorted_under file text b l u).own ≡ false →
      Agree (own_sort file (resolved file text k t)) (own_sort file (resolved file text l u))
  agree b k t l u h =
      subst (λ s. Agree s (own_sort file (resolved file text l u))) (own_resolved file text b k t)
      (subst (λ s. Agree (sorted_under file text b k t).own s) (own_resolved file text b l u) (agree_if _ _ h))

  -- the term of a node keeps the rules where the node has no faults
  abbrev Kept : Sorted → Term → Type 0
  Kept s t = (final : Option ℕ) (in_fields : Bool) → s.faults final in_fields ≡ [] → KeepsRules file t

  -- the rules of exponents, sorts and arguments for both parts of an operation, and that their own sorts agree
  abbrev BothKept : Term → Term → Type 0
  BothKept t u =
      (Unit {0} × EachNode HasExponent t × EachNode HasExponent u)
      × (Agree (own_sort file t) (own_sort file u) × EachNode (HasAgreeingParts file) t
      × EachNode (HasAgreeingParts file) u)
      × (Unit {0} × EachNode (HasFittingArgument file) t × EachNode (HasFittingArgument file) u)

  both_kept : (b : Bool) (head k l : ℕ) (t u : RawNode) →
      Kept (sorted_under file text b k t) (resolved file text k t) →
      Kept (sorted_under file text b l u) (resolved file text l u) → (final : Option ℕ) (in_fields : Bool) →
      (operator head (sorted_under file text b k t) (sorted_under file text b l u)).faults final in_fields ≡ [] →
      BothKept (resolved file text k t) (resolved file text l u)
  both_kept b head k l t u left right final in_fields h =
      let (front, back) = parts_empty _ _ h in
      let (sorts, middle) = parts_empty _ _ front in
      let (e, p, a) = left final in_fields middle in
      let (f, q, c) = right final in_fields back in
      ((tt, e, f), (agree b k t l u (no_fault _ code.Sort head sorts), p, q), (tt, a, c))

  kept_nodes : (b : Bool) → AreRelated (node_sorted file text b) (node_term file text) Kept
  unfolding EachNode
      Rattle.alg_terms.specs.declared.term.Term.TheBlock.hidden-the_row-Term-0 denote.Hole.Carrier.hidden
  kept_nodes b = record {
    name = λ head span final in_fields h. (tt, tt, tt);
    literal = λ head n final in_fields h. (tt, tt, tt);
    opposite = λ head k t below final in_fields h.
        let (e, p, a) = below final in_fields h in ((tt, e), (tt, p), (tt, a));
    power = λ head k t n below final in_fields h.
        let (here, rest) = parts_empty _ _ h in
        let (e, p, a) = below final in_fields rest in
        ((exponent_in_range n here, e), (tt, p), (tt, a));
    image = λ head k t span below final in_fields h.
        let f = number_at file text span in
        let (here, rest) = parts_empty _ _ h in
        let (e, p, a) = below (Some (source_of file f)) _ rest in
        let fits : Agree (own_sort file (resolved file text k t)) (Some (source_of file f)) =
        subst (λ s. Agree s (Some (source_of file f))) (own_resolved file text b k t)
        (agree_if _ _ (no_fault _ code.Sort head here)) in
        ((tt, e), (tt, p), (fits, a));
    sum = both_kept b;
    difference = both_kept b;
    product = both_kept b;
    quotient = λ head k l t u left right final in_fields h.
        both_kept b head k l t u left right final in_fields (parts_empty _ _ h).1;
  }

  pub rules_kept : (b : Bool) (head : ℕ) (node : RawNode) →
      Kept (sorted_under file text b head node) (resolved file text head node)
  rules_kept b = related _ _ _ (kept_nodes b)
