-- Terms by their parts: a leaf, an operation on one part, or an operation on two. What holds of both kinds of leaf, of
-- each operation on one part or of each operation on two is said and shown once.
use Rattle.std.proofs.Common.{◌≡◌, ◌↔◌, ℕ, ℤ, List, ◌∷◌, ◌++◌, refl, subst, ◌∙◌, Option}
use Rattle.std.specs.Option.{option_or}
use Rattle.alg_terms.specs.declared.file.File.{File}
use Rattle.alg_terms.specs.declared.term.Term.{Term, map-Term, roll-Term}
use Rattle.alg_terms.specs.declared.term.Term.TheFolds.{ind-Term}
use Rattle.alg_terms.specs.declared.term.Term.TheOpen.{Term-F}
use Rattle.alg_terms.specs.declared.term.Term.TheVariants.{Var, Int, Neg, Add, Sub, Mul, Div, Pow, Hom, rolls-Var, rolls-Int, rolls-Neg, rolls-Add, rolls-Sub, rolls-Mul, rolls-Div, rolls-Pow, rolls-Hom}
use Rattle.alg_terms.specs.Members.{source_of}
use Rattle.alg_terms.specs.Nodes.{fold_term, EachNode}
use Rattle.alg_terms.specs.Sorts.{node_sort, own_sort, Agree, EachNodeAt}
use Rattle.alg_terms.specs.Occurring.{node_vars, node_homs}
use Rattle.alg_terms.specs.TermRules.{IsInRange, HasAgreeingParts}
use Rattle.alg_terms.proofs.Built.{fold_term-Neg, fold_term-Add, fold_term-Sub, fold_term-Mul, fold_term-Div, fold_term-Pow, fold_term-Hom}
use Rattle.alg_terms.proofs.BuiltNodes.{EachNode-Neg, EachNode-Add, EachNode-Sub, EachNode-Mul, EachNode-Div, EachNode-Pow, EachNode-Hom, EachNodeAt-Neg, EachNodeAt-Pow, EachNodeAt-Hom, EachNodeAt-Add, EachNodeAt-Sub, EachNodeAt-Mul, EachNodeAt-Div}

-- a variable or a literal
pub data Leaf : Type 0 where
  Variable : ℕ → Leaf
  Literal : ℤ → Leaf

-- the operations on one part: the opposite, a power and the image under a morphism
pub data Unary : Type 0 where
  Opposite : Unary
  Power : ℕ → Unary
  Image : ℕ → Unary

-- the operations on two parts
pub data Binary : Type 0 where
  Sum : Binary
  Difference : Binary
  Product : Binary
  Quotient : Binary

-- the term that is a leaf
abbrev pub leaf : Leaf → Term
leaf (Leaf.Variable k) = Var k
leaf (Leaf.Literal n) = Int n

-- the term that is an operation on one part
abbrev pub unary : Unary → Term → Term
unary Unary.Opposite t = Neg t
unary (Unary.Power n) t = Pow t n
unary (Unary.Image f) t = Hom f t

-- the term that is an operation on two parts
abbrev pub binary : Binary → Term → Term → Term
binary Binary.Sum t u = Add t u
binary Binary.Difference t u = Sub t u
binary Binary.Product t u = Mul t u
binary Binary.Quotient t u = Div t u

-- the node of each of these, with something in the place of each part
abbrev pub leaf_node : {A : Type 0} → Leaf → Term-F A
leaf_node (Leaf.Variable k) = Term-F.Var k
leaf_node (Leaf.Literal n) = Term-F.Int n

abbrev pub unary_node : {A : Type 0} → Unary → A → Term-F A
unary_node Unary.Opposite a = Term-F.Neg a
unary_node (Unary.Power n) a = Term-F.Pow a n
unary_node (Unary.Image f) a = Term-F.Hom f a

abbrev pub binary_node : {A : Type 0} → Binary → A → A → Term-F A
binary_node Binary.Sum a b = Term-F.Add a b
binary_node Binary.Difference a b = Term-F.Sub a b
binary_node Binary.Product a b = Term-F.Mul a b
binary_node Binary.Quotient a b = Term-F.Div a b

-- what holds of both kinds of leaf, and of each operation
pub each_leaf : (P : Leaf → Type 0) → ((k : ℕ) → P (Leaf.Variable k)) → ((n : ℤ) → P (Leaf.Literal n)) →
    (l : Leaf) → P l
each_leaf P var int (Leaf.Variable k) = var k
each_leaf P var int (Leaf.Literal n) = int n

pub each_unary : (P : Unary → Type 0) → P Unary.Opposite → ((n : ℕ) → P (Unary.Power n)) →
    ((f : ℕ) → P (Unary.Image f)) → (o : Unary) → P o
each_unary P opposite power image Unary.Opposite = opposite
each_unary P opposite power image (Unary.Power n) = power n
each_unary P opposite power image (Unary.Image f) = image f

pub each_binary : (P : Binary → Type 0) → P Binary.Sum → P Binary.Difference → P Binary.Product → P Binary.Quotient →
    (o : Binary) → P o
each_binary P sum difference product quotient Binary.Sum = sum
each_binary P sum difference product quotient Binary.Difference = difference
each_binary P sum difference product quotient Binary.Product = product
each_binary P sum difference product quotient Binary.Quotient = quotient

-- what holds of a term where it holds of its parts
pub record Holds (P : Term → Type 0) : Type 0 where
  pub of_leaf : (l : Leaf) → P (leaf l)
  pub of_unary : (o : Unary) (t : Term) → P t → P (unary o t)
  pub of_binary : (o : Binary) (t u : Term) → P t → P u → P (binary o t u)

module _ (P : Term → Type 0) (h : Holds P) where
  node : {S : Type 0} (term : S → Term) (known : (s : S) → P (term s)) (y : Term-F S) →
      P (roll-Term (map-Term S Term term y))
  unfolding roll-Term denote.Hole.Carrier.roll
  node term known (Term-F.Var k) = subst P (rolls-Var k) (h.of_leaf (Leaf.Variable k))
  node term known (Term-F.Int n) = subst P (rolls-Int n) (h.of_leaf (Leaf.Literal n))
  node term known (Term-F.Neg s) = subst P (rolls-Neg (term s)) (h.of_unary Unary.Opposite (term s) (known s))
  node term known (Term-F.Add l r) =
      subst P (rolls-Add (term l) (term r)) (h.of_binary Binary.Sum (term l) (term r) (known l) (known r))
  node term known (Term-F.Sub l r) =
      subst P (rolls-Sub (term l) (term r)) (h.of_binary Binary.Difference (term l) (term r) (known l) (known r))
  node term known (Term-F.Mul l r) =
      subst P (rolls-Mul (term l) (term r)) (h.of_binary Binary.Product (term l) (term r) (known l) (known r))
  node term known (Term-F.Div l r) =
      subst P (rolls-Div (term l) (term r)) (h.of_binary Binary.Quotient (term l) (term r) (known l) (known r))
  node term known (Term-F.Pow s n) = subst P (rolls-Pow (term s) n) (h.of_unary (Unary.Power n) (term s) (known s))
  node term known (Term-F.Hom f s) = subst P (rolls-Hom f (term s)) (h.of_unary (Unary.Image f) (term s) (known s))

  -- holds of every term
  pub induction : (t : Term) → P t
  induction = ind-Term P (λ x y is. subst (λ z. P (roll-Term z)) is (node (λ e. e.0) (λ e. e.1) y))

-- what a fold gives
module _ {A : Type 0} (node : Term-F A → A) where
  pub fold_unary : (o : Unary) (t : Term) → fold_term node (unary o t) ≡ node (unary_node o (fold_term node t))
  fold_unary Unary.Opposite t = fold_term-Neg node t
  fold_unary (Unary.Power n) t = fold_term-Pow node t n
  fold_unary (Unary.Image f) t = fold_term-Hom node f t

  pub fold_binary : (o : Binary) (t u : Term) →
      fold_term node (binary o t u) ≡ node (binary_node o (fold_term node t) (fold_term node u))
  fold_binary Binary.Sum t u = fold_term-Add node t u
  fold_binary Binary.Difference t u = fold_term-Sub node t u
  fold_binary Binary.Product t u = fold_term-Mul node t u
  fold_binary Binary.Quotient t u = fold_term-Div node t u

-- what holds of each node
module _ (P : Term-F Term → Type 0) where
  pub nodes_leaf : (l : Leaf) → EachNode P (leaf l) ↔ P (leaf_node l)
  unfolding EachNode
  nodes_leaf (Leaf.Variable k) = (λ h. h, λ h. h)
  nodes_leaf (Leaf.Literal n) = (λ h. h, λ h. h)

  pub nodes_unary : (o : Unary) (t : Term) → EachNode P (unary o t) ↔ (P (unary_node o t) × EachNode P t)
  nodes_unary Unary.Opposite t = EachNode-Neg P t
  nodes_unary (Unary.Power n) t = EachNode-Pow P t n
  nodes_unary (Unary.Image f) t = EachNode-Hom P f t

  pub nodes_binary : (o : Binary) (t u : Term) →
      EachNode P (binary o t u) ↔ (P (binary_node o t u) × EachNode P t × EachNode P u)
  nodes_binary Binary.Sum t u = EachNode-Add P t u
  nodes_binary Binary.Difference t u = EachNode-Sub P t u
  nodes_binary Binary.Product t u = EachNode-Mul P t u
  nodes_binary Binary.Quotient t u = EachNode-Div P t u

-- the final sort of the part of an operation, and the morphisms over it
abbrev pub below : File → Unary → ℕ → List ℕ → ℕ × List ℕ
below file Unary.Opposite s above = (s, above)
below file (Unary.Power n) s above = (s, above)
below file (Unary.Image f) s above = (source_of file f, f ∷ above)

-- the same with the final sort of each node and the morphisms over it
module _ (file : File) (P : ℕ → List ℕ → Term-F Term → Type 0) (s : ℕ) (above : List ℕ) where
  pub nodes_at_leaf : (l : Leaf) → EachNodeAt file P s above (leaf l) ↔ P s above (leaf_node l)
  unfolding EachNodeAt
  nodes_at_leaf (Leaf.Variable k) = (λ h. h, λ h. h)
  nodes_at_leaf (Leaf.Literal n) = (λ h. h, λ h. h)

  pub nodes_at_unary : (o : Unary) (t : Term) →
      EachNodeAt file P s above (unary o t) ↔
      (P s above (unary_node o t)
      × EachNodeAt file P (below file o s above).0 (below file o s above).1 t)
  nodes_at_unary Unary.Opposite t = EachNodeAt-Neg file P s above t
  nodes_at_unary (Unary.Power n) t = EachNodeAt-Pow file P s above t n
  nodes_at_unary (Unary.Image f) t = EachNodeAt-Hom file P s above f t

  pub nodes_at_binary : (o : Binary) (t u : Term) →
      EachNodeAt file P s above (binary o t u) ↔
      (P s above (binary_node o t u) × EachNodeAt file P s above t × EachNodeAt file P s above u)
  nodes_at_binary Binary.Sum t u = EachNodeAt-Add file P s above t u
  nodes_at_binary Binary.Difference t u = EachNodeAt-Sub file P s above t u
  nodes_at_binary Binary.Product t u = EachNodeAt-Mul file P s above t u
  nodes_at_binary Binary.Quotient t u = EachNodeAt-Div file P s above t u

-- the own sort of an operation on two parts, and that their own sorts agree
pub sort_binary : (file : File) (o : Binary) (a b : Option ℕ) → node_sort file (binary_node o a b) ≡ option_or a b
sort_binary file o a b =
    each_binary (λ o. node_sort file (binary_node o a b) ≡ option_or a b) refl refl refl refl o

pub agree_binary : (file : File) (o : Binary) (t u : Term) →
    HasAgreeingParts file (binary_node o t u) ↔ Agree (own_sort file t) (own_sort file u)
agree_binary file o t u =
    each_binary (λ o. HasAgreeingParts file (binary_node o t u) ↔ Agree (own_sort file t) (own_sort file u))
    (λ h. h, λ h. h) (λ h. h, λ h. h) (λ h. h, λ h. h) (λ h. h, λ h. h) o

-- no operation on two parts is out of range
pub range_binary : (file : File) (o : Binary) (t u : Term) → IsInRange file (binary_node o t u)
range_binary file o t u = each_binary (λ o. IsInRange file (binary_node o t u)) tt tt tt tt o

-- the variables and the morphisms of an operation on two parts
pub vars_binary : (o : Binary) (t u : Term) →
    fold_term node_vars (binary o t u) ≡ fold_term node_vars t ++ fold_term node_vars u
vars_binary o t u =
    let a = fold_term node_vars t in
    let b = fold_term node_vars u in
    fold_binary node_vars o t u
    ∙ each_binary (λ o. node_vars (binary_node o a b) ≡ a ++ b) refl refl refl refl o

pub homs_binary : (o : Binary) (t u : Term) →
    fold_term node_homs (binary o t u) ≡ fold_term node_homs t ++ fold_term node_homs u
homs_binary o t u =
    let a = fold_term node_homs t in
    let b = fold_term node_homs u in
    fold_binary node_homs o t u
    ∙ each_binary (λ o. node_homs (binary_node o a b) ≡ a ++ b) refl refl refl refl o

-- its own sort
pub own_binary : (file : File) (o : Binary) (t u : Term) →
    own_sort file (binary o t u) ≡ option_or (own_sort file t) (own_sort file u)
own_binary file o t u =
    fold_binary (node_sort file) o t u ∙ sort_binary file o (own_sort file t) (own_sort file u)
