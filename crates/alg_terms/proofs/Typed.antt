-- In a term that keeps the rules of sorts each node has the final sort that its place wants.
use Rattle.std.proofs.Common.{◌≡◌, ◌<◌, ℕ, List, ◌∷◌, length, subst, Option, None, Some}
use Rattle.std.specs.Option.{option_or}
use Rattle.alg_terms.specs.declared.file.File.{File}
use Rattle.alg_terms.specs.declared.term.Term.{Term}
use Rattle.alg_terms.specs.declared.term.Term.TheOpen.{Term-F}
use Rattle.alg_terms.specs.Members.{source_of, target_of, sort_of_var}
use Rattle.alg_terms.specs.Nodes.{fold_term, EachNode}
use Rattle.alg_terms.specs.Sorts.{own_sort, Agree, MayStandAt, EachNodeAt}
use Rattle.alg_terms.specs.TermRules.{IsTerm, IsInRange, HasAgreeingParts, HasFittingArgument}
use Rattle.alg_terms.proofs.Views.{Leaf, Unary, Binary, leaf, unary, binary, binary_node, each_binary, induction, nodes_binary, nodes_at_binary, own_binary, agree_binary}

-- a variable is of the file and of this sort, and so is a morphism's target
abbrev pub HasSort : File → ℕ → List ℕ → Term-F Term → Type 0
HasSort file s above (Term-F.Var k) = (k < length file.vars) × (sort_of_var file k ≡ s)
HasSort file s above (Term-F.Hom f part) = (f < length file.homs) × (target_of file f ≡ s)
HasSort file s above _ = Unit {0}

-- each node of the term has its final sort, where s is the term's
abbrev pub IsTyped : File → ℕ → List ℕ → Term → Type 0
IsTyped file s above t = EachNodeAt file (HasSort file) s above t

-- the rules that this rests on
abbrev pub KeepsSorts : File → Term → Type 0
KeepsSorts file t =
    EachNode (IsInRange file) t × EachNode (HasAgreeingParts file) t × EachNode (HasFittingArgument file) t

-- where the sort of two parts that agree is wanted, the left part may stand there, and so may the right one
agree_left : (a b : Option ℕ) (s : ℕ) → Agree (option_or a b) (Some s) → Agree a (Some s)
agree_left None b s h = tt
agree_left (Some t) b s h = h

agree_right : (a b : Option ℕ) (s : ℕ) → Agree a b → Agree (option_or a b) (Some s) → Agree b (Some s)
agree_right a None s h l = tt
agree_right None (Some t) s h l = l
agree_right (Some r) (Some t) s h l = cc

module _ (file : File) where
  abbrev Types : Term → Type 0
  Types t = (s : ℕ) (above : List ℕ) → KeepsSorts file t → MayStandAt file s t → IsTyped file s above t

  types_leaf : (l : Leaf) → Types (leaf l)
  unfolding fold_term EachNode EachNodeAt
  types_leaf (Leaf.Variable k) s above (range, parts, fits) h = (range, h)
  types_leaf (Leaf.Literal n) s above (range, parts, fits) h = tt

  types_unary : (o : Unary) (t : Term) → Types t → Types (unary o t)
  unfolding fold_term EachNode EachNodeAt
      Rattle.alg_terms.specs.declared.term.Term.TheBlock.hidden-the_row-Term-0 denote.Hole.Carrier.hidden
  types_unary Unary.Opposite t part s above (range, parts, fits) h = (tt, part s above (range.1, parts.1, fits.1) h)
  types_unary (Unary.Power n) t part s above (range, parts, fits) h = (tt, part s above (range.1, parts.1, fits.1) h)
  types_unary (Unary.Image f) t part s above (range, parts, fits) h =
      ((range.0, h), part (source_of file f) (f ∷ above) (range.1, parts.1, fits.1) fits.0)

  types_binary : (o : Binary) (t u : Term) → Types t → Types u → Types (binary o t u)
  types_binary o t u left right s above (range, parts, fits) h =
      let (in_range, r, r') = (nodes_binary (IsInRange file) o t u).0 range in
      let (agree, p, p') = (nodes_binary (HasAgreeingParts file) o t u).0 parts in
      let (fit, f, f') = (nodes_binary (HasFittingArgument file) o t u).0 fits in
      let sort = subst (λ own. Agree own (Some s)) (own_binary file o t u) h in
      (nodes_at_binary file (HasSort file) s above o t u).1 (
        each_binary (λ o. HasSort file s above (binary_node o t u)) tt tt tt tt o,
        left s above (r, p, f) (agree_left (own_sort file t) (own_sort file u) s sort),
        right s above (r', p', f')
            (agree_right (own_sort file t) (own_sort file u) s ((agree_binary file o t u).0 agree) sort),
      )

  pub typed : (t : Term) → Types t
  typed = induction Types (record { of_leaf = types_leaf; of_unary = types_unary; of_binary = types_binary })

-- a term of the file that may stand at a sort is typed there
pub typed_term : (file : File) (t : Term) (s : ℕ) → IsTerm file t → MayStandAt file s t → (above : List ℕ) →
    IsTyped file s above t
typed_term file t s rules h above = typed file t s above (rules.indices, rules.parts, rules.arguments) h
