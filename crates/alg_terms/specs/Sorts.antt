-- The sorts of nodes, terms, paths and uses.
use Rattle.std.specs.Prelude.{◌≡◌, ℕ, List, [], ◌∷◌, Option, None, Some, unwrap_or}
use Rattle.std.specs.Option.{option_or}
use Rattle.alg_terms.specs.declared.file.File.{File}
use Rattle.alg_terms.specs.declared.goals.Use.{Use}
use Rattle.alg_terms.specs.declared.term.Term.{Term, more_of-Term, Var, Int, Neg', Add', Sub', Mul', Div', Pow', Hom'}
use Rattle.alg_terms.specs.declared.term.Term.TheOpen.{Term-F}
use Rattle.alg_terms.specs.Members.{source_of, target_of, sort_of_var, hyp_at}
use Rattle.alg_terms.specs.Nodes.{fold_term}

-- one node's own sort, by the own sorts of its parts: a literal has none, and a binary node has its left part's if
-- there is one, else its right part's
abbrev pub node_sort : File → Term-F (Option ℕ) → Option ℕ
node_sort file (Term-F.Var k) = Some (sort_of_var file k)
node_sort file (Term-F.Int n) = None
node_sort file (Term-F.Neg part) = part
node_sort file (Term-F.Add left right) = option_or left right
node_sort file (Term-F.Sub left right) = option_or left right
node_sort file (Term-F.Mul left right) = option_or left right
node_sort file (Term-F.Div left right) = option_or left right
node_sort file (Term-F.Pow part exponent) = part
node_sort file (Term-F.Hom f part) = Some (target_of file f)

-- the own sort of a term
abbrev pub own_sort : File → Term → Option ℕ
own_sort file = fold_term (node_sort file)

-- the sort of an equation: the left side's own sort if there is one, else the right side's
abbrev pub equation_sort : File → Term → Term → Option ℕ
equation_sort file left right = option_or (own_sort file left) (own_sort file right)

-- the sort of a condition or a denominator: its own, or the goal's where it has none
abbrev pub sort_beside : File → ℕ → Term → ℕ
sort_beside file goal_sort t = unwrap_or (own_sort file t) goal_sort

-- two own sorts that don't differ: they are equal where both are there
abbrev pub Agree : Option ℕ → Option ℕ → Type 0
Agree None t = Unit {0}
Agree (Some s) None = Unit {0}
Agree (Some s) (Some t) = s ≡ t

-- the term may stand where sort s is wanted
abbrev pub MayStandAt : File → ℕ → Term → Type 0
MayStandAt file s t = Agree (own_sort file t) (Some s)

-- P holds of each node of a term at its final sort and below the morphisms over it, the innermost first, where the
-- term has final sort s and stands below `above`: an operator's parts have its final sort, and a morphism's argument
-- has the morphism's source
unfoldable pub EachNodeAt : File → (ℕ → List ℕ → Term-F Term → Type 0) → ℕ → List ℕ → Term → Type 0
EachNodeAt file P s above (Var k) = P s above (Term-F.Var k)
EachNodeAt file P s above (Int n) = P s above (Term-F.Int n)
EachNodeAt file P s above (Neg' _ (more_of-Term t _)) = P s above (Term-F.Neg t) × EachNodeAt file P s above t
EachNodeAt file P s above (Add' _ (more_of-Term t _) _ (more_of-Term u _)) =
    P s above (Term-F.Add t u) × EachNodeAt file P s above t × EachNodeAt file P s above u
EachNodeAt file P s above (Sub' _ (more_of-Term t _) _ (more_of-Term u _)) =
    P s above (Term-F.Sub t u) × EachNodeAt file P s above t × EachNodeAt file P s above u
EachNodeAt file P s above (Mul' _ (more_of-Term t _) _ (more_of-Term u _)) =
    P s above (Term-F.Mul t u) × EachNodeAt file P s above t × EachNodeAt file P s above u
EachNodeAt file P s above (Div' _ (more_of-Term t _) _ (more_of-Term u _)) =
    P s above (Term-F.Div t u) × EachNodeAt file P s above t × EachNodeAt file P s above u
EachNodeAt file P s above (Pow' _ (more_of-Term t _) n) = P s above (Term-F.Pow t n) × EachNodeAt file P s above t
EachNodeAt file P s above (Hom' f _ (more_of-Term t _)) =
    P s above (Term-F.Hom f t) × EachNodeAt file P (source_of file f) (f ∷ above) t

-- the path of morphisms, the outermost first, leads from one sort to another
abbrev pub Leads : File → List ℕ → ℕ → ℕ → Type 0
Leads file [] from to = from ≡ to
Leads file (f ∷ path) from to = (target_of file f ≡ to) × Leads file path from (source_of file f)

-- the sort of the hypothesis that is used
abbrev pub hyp_sort : File → Use → ℕ
hyp_sort file used = (hyp_at file used.hyp).equation.sort
