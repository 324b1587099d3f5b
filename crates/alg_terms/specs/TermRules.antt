-- The rules of terms: each has a name of its own, so that it can be cited alone.
use Rattle.std.specs.Prelude.{◌≤◌, ◌<◌, ℕ, List, [], length, All, pos, ◌≤ℤ◌}
use Rattle.alg_terms.specs.declared.file.File.{File}
use Rattle.alg_terms.specs.declared.term.Term.{Term}
use Rattle.alg_terms.specs.declared.term.Term.TheOpen.{Term-F}
use Rattle.alg_terms.specs.Kinds.{IsField}
use Rattle.alg_terms.specs.Limits.{MAX_LITERAL, MAX_EXPONENT, MAX_DEPTH}
use Rattle.alg_terms.specs.Members.{kind_of, source_of, target_of}
use Rattle.alg_terms.specs.Nodes.{EachNode}
use Rattle.alg_terms.specs.Sorts.{own_sort, Agree, MayStandAt, EachNodeAt}
use Rattle.alg_terms.specs.Term.{depth_of}

-- a variable or morphism of the node is one of the file
abbrev pub IsInRange : File → Term-F Term → Type 0
IsInRange file (Term-F.Var k) = k < length file.vars
IsInRange file (Term-F.Hom f part) = f < length file.homs
IsInRange file _ = Unit {0}

-- a literal is from 0 to the greatest
abbrev pub HasLiteral : Term-F Term → Type 0
HasLiteral (Term-F.Int n) = (pos 0 ≤ℤ n) × (n ≤ℤ MAX_LITERAL)
HasLiteral _ = Unit {0}

-- an exponent is at most the greatest
abbrev pub HasExponent : Term-F Term → Type 0
HasExponent (Term-F.Pow part exponent) = exponent ≤ MAX_EXPONENT
HasExponent _ = Unit {0}

-- the own sorts of an operator's two parts don't differ
abbrev pub HasAgreeingParts : File → Term-F Term → Type 0
HasAgreeingParts file (Term-F.Add left right) = Agree (own_sort file left) (own_sort file right)
HasAgreeingParts file (Term-F.Sub left right) = Agree (own_sort file left) (own_sort file right)
HasAgreeingParts file (Term-F.Mul left right) = Agree (own_sort file left) (own_sort file right)
HasAgreeingParts file (Term-F.Div left right) = Agree (own_sort file left) (own_sort file right)
HasAgreeingParts file _ = Unit {0}

-- the argument of a morphism has no own sort other than the morphism's source
abbrev pub HasFittingArgument : File → Term-F Term → Type 0
HasFittingArgument file (Term-F.Hom f part) = MayStandAt file (source_of file f) part
HasFittingArgument file _ = Unit {0}

-- a term of the file, apart from where it may have quotients
pub record IsTerm (file : File) (t : Term) : Type 0 where
  pub indices : EachNode (IsInRange file) t
  pub literals : EachNode HasLiteral t
  pub exponents : EachNode HasExponent t
  pub depth : depth_of t ≤ MAX_DEPTH
  pub parts : EachNode (HasAgreeingParts file) t
  pub arguments : EachNode (HasFittingArgument file) t

-- a node is no quotient
abbrev pub IsNoQuotient : Term-F Term → Type 0
IsNoQuotient (Term-F.Div left right) = ⊥
IsNoQuotient _ = Unit {0}

-- the term has no quotients
abbrev pub HasNoQuotient : Term → Type 0
HasNoQuotient = EachNode IsNoQuotient

-- a quotient's final sort is a field, and so is the target of each morphism over it
abbrev pub DividesInFields : File → ℕ → List ℕ → Term-F Term → Type 0
DividesInFields file s above (Term-F.Div left right) =
    IsField (kind_of file s) × All (λ f. IsField (kind_of file (target_of file f))) above
DividesInFields file s above _ = Unit {0}

-- each quotient of a term at sort s is one of fields, below morphisms to fields
abbrev pub HasFieldQuotients : File → ℕ → Term → Type 0
HasFieldQuotients file s t = EachNodeAt file (DividesInFields file) s [] t
