-- The atoms that occur in terms, and the table of a goal.
use Rattle.std.specs.Prelude.{ℕ, Bool, ◌&&◌, ◌==◌, nat_le, if◌then◌else◌, List, [], ◌∷◌, ◌++◌, flat_map, length, slice_get}
use Rattle.std.specs.Cmp.Lexicographic.{pointwise}
use Rattle.std.specs.Prelude.{nat_eq}
use Rattle.std.specs.Option.{option_map_or}
use Rattle.alg_terms.specs.declared.term.Atom.{Atom}
use Rattle.alg_terms.specs.declared.term.Term.{Term}
use Rattle.alg_terms.specs.declared.term.Term.TheOpen.{Term-F}
use Rattle.alg_terms.specs.declared.file.File.{File}
use Rattle.alg_terms.specs.declared.goals.Equation.{Equation}
use Rattle.alg_terms.specs.declared.goals.Goal.{Goal}
use Rattle.alg_terms.specs.declared.goals.Use.{Use}
use Rattle.alg_terms.specs.Lists.{each_once}
use Rattle.alg_terms.specs.Members.{uses_of}
use Rattle.alg_terms.specs.Nodes.{fold_term}

-- whether two atoms are one: the same variable under the same path
abbrev pub atom_eq : Atom → Atom → Bool
atom_eq a b = pointwise nat_eq a.path b.path && a.var == b.var

-- one node, with the atoms of each part in its place, as they are under any path
abbrev pub node_leaves : Term-F (List ℕ → List Atom) → List ℕ → List Atom
node_leaves (Term-F.Var k) path = record { path = path; var = k } ∷ []
node_leaves (Term-F.Int n) path = []
node_leaves (Term-F.Neg t) path = t path
node_leaves (Term-F.Add t u) path = t path ++ u path
node_leaves (Term-F.Sub t u) path = t path ++ u path
node_leaves (Term-F.Mul t u) path = t path ++ u path
node_leaves (Term-F.Div t u) path = t path ++ u path
node_leaves (Term-F.Pow t n) path = t path
node_leaves (Term-F.Hom f t) path = t (path ++ f ∷ [])

-- the atoms of the leaves of a term under a path, from left to right
abbrev pub leaves : List ℕ → Term → List Atom
leaves path t = fold_term node_leaves t path

-- the atoms of both sides under a path, the left side first
abbrev pub equation_leaves : List ℕ → Equation → List Atom
equation_leaves path e = leaves path e.left ++ leaves path e.right

-- the atoms of a used hypothesis under its path
abbrev pub use_leaves : File → Use → List Atom
use_leaves file u = option_map_or (λ h. equation_leaves u.path h.equation) (slice_get file.hyps u.hyp) []

-- the table of an equation with used hypotheses: atom number k is the k-th of it, from 0
abbrev pub table : File → Equation → List Use → List Atom
table file e uses = each_once atom_eq (equation_leaves [] e ++ flat_map (use_leaves file) uses)

-- the most atoms that a table may have
abbrev pub MAX_ATOMS : ℕ
MAX_ATOMS = 1000

-- the atoms that the monomials of a goal's answer may have: its table, and none where that would have too many
abbrev pub goal_atoms : File → Goal → List Atom
goal_atoms file goal =
    let atoms = table file goal.equation (uses_of goal.method) in if nat_le (length atoms) MAX_ATOMS then atoms else []
