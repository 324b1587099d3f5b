-- Terms that were read, node by node: what relates the values of two folds at each node, since it does so at a node
-- where it does so at the node's parts.
use Rattle.std.specs.Prelude.{ℕ, ℤ}
use Rattle.alg_terms.proofs.Views.{Binary}
use Rattle.alg_reader.specs.declared.raw.RawNode.{RawNode, more_of-RawTerm, Var, Int, Neg', Add', Sub', Mul', Div', Pow', Hom'}
use Rattle.alg_reader.specs.declared.raw.RawNode.TheOpen.{RawNode-F}
use Rattle.alg_reader.specs.declared.raw.RawNumber.{RawNumber}
use Rattle.alg_reader.specs.declared.raw.Span.{Span}
use Rattle.alg_reader.specs.RawTerms.{Node, fold_under}

-- the node of an operation on two parts, with something in the place of each
abbrev pub binary_node : {X : Type 0} → Binary → X → X → Node X
binary_node Binary.Sum left right = RawNode-F.Add left right
binary_node Binary.Difference left right = RawNode-F.Sub left right
binary_node Binary.Product left right = RawNode-F.Mul left right
binary_node Binary.Quotient left right = RawNode-F.Div left right

module _ {X Y : Type 0} (f : ℕ → Node X → X) (g : ℕ → Node Y → Y) (R : X → Y → Type 0) where
  -- R relates what the two folds give at a node
  abbrev pub Relates : ℕ → RawNode → Type 0
  Relates head node = R (fold_under f head node) (fold_under g head node)

  -- it does so at an operation where it does so at its two parts
  abbrev pub RelatesBoth : Binary → Type 0
  RelatesBoth o = (head k l : ℕ) (t u : RawNode) → Relates k t → Relates l u →
      R (f head (binary_node o (fold_under f k t) (fold_under f l u)))
      (g head (binary_node o (fold_under g k t) (fold_under g l u)))

  -- it does so at each kind of node where it does so at the node's parts. What gives the same at the operations on two
  -- parts is shown once and stands at each
  pub record AreRelated : Type 0 where
    pub name : (head : ℕ) (span : Span) → R (f head (RawNode-F.Var span)) (g head (RawNode-F.Var span))
    pub literal : (head : ℕ) (n : ℤ) → R (f head (RawNode-F.Int n)) (g head (RawNode-F.Int n))
    pub opposite : (head k : ℕ) (t : RawNode) → Relates k t →
        R (f head (RawNode-F.Neg (fold_under f k t))) (g head (RawNode-F.Neg (fold_under g k t)))
    pub power : (head k : ℕ) (t : RawNode) (n : RawNumber) → Relates k t →
        R (f head (RawNode-F.Pow (fold_under f k t) n)) (g head (RawNode-F.Pow (fold_under g k t) n))
    pub image : (head k : ℕ) (t : RawNode) (span : Span) → Relates k t →
        R (f head (RawNode-F.Hom span (fold_under f k t))) (g head (RawNode-F.Hom span (fold_under g k t)))
    pub sum : RelatesBoth Binary.Sum
    pub difference : RelatesBoth Binary.Difference
    pub product : RelatesBoth Binary.Product
    pub quotient : RelatesBoth Binary.Quotient

  -- so it does at every node
  pub related : AreRelated → (head : ℕ) (node : RawNode) → Relates head node
  unfolding fold_under
  related h head (Var name) = h.name head name
  related h head (Int n) = h.literal head n
  related h head (Neg' _ (more_of-RawTerm k t _)) = h.opposite head k t (related h k t)
  related h head (Add' _ (more_of-RawTerm k t _) _ (more_of-RawTerm l u _)) =
      h.sum head k l t u (related h k t) (related h l u)
  related h head (Sub' _ (more_of-RawTerm k t _) _ (more_of-RawTerm l u _)) =
      h.difference head k l t u (related h k t) (related h l u)
  related h head (Mul' _ (more_of-RawTerm k t _) _ (more_of-RawTerm l u _)) =
      h.product head k l t u (related h k t) (related h l u)
  related h head (Div' _ (more_of-RawTerm k t _) _ (more_of-RawTerm l u _)) =
      h.quotient head k l t u (related h k t) (related h l u)
  related h head (Pow' _ (more_of-RawTerm k t _) n) = h.power head k t n (related h k t)
  related h head (Hom' name _ (more_of-RawTerm k t _)) = h.image head k t name (related h k t)
