-- The atoms of a term of the file are of the file.
use Rattle.std.proofs.Common.{◌<◌, ℕ, List, [], ◌∷◌, ◌++◌, length}
use Rattle.std.specs.Prelude.{All}
use Rattle.std.proofs.lemmas.List.Elements.{All-nil, All-cons, All-append, All-push}
use Rattle.alg_terms.specs.declared.file.File.{File}
use Rattle.alg_terms.specs.declared.goals.Equation.{Equation}
use Rattle.alg_terms.specs.declared.term.Atom.{Atom}
use Rattle.alg_terms.specs.declared.term.Term.{Term, more_of-Term, Var, Int, Neg', Add', Sub', Mul', Div', Pow', Hom'}
use Rattle.alg_terms.specs.Nodes.{fold_term, EachNode}
use Rattle.alg_reify.specs.Table.{leaves, equation_leaves}
use Rattle.alg_printer.specs.Monomials.{IsAtomOf}
use Rattle.alg_printer.specs.Names.{IsPathOf}
use Rattle.alg_printer.specs.Terms.{IsNamed}

-- all of these atoms are of the file
abbrev pub AreAtoms : File → List Atom → Type 0
AreAtoms file atoms = All (IsAtomOf file) atoms

-- the atoms of two lists of the file are of the file
both : (file : File) (left right : List Atom) → AreAtoms file left → AreAtoms file right → AreAtoms file (left ++ right)
both file left right h k = All-append (IsAtomOf file) left right h k

-- the atoms of a term of the file are of the file, under any path of the file
has_atoms : (file : File) (t : Term) (path : List ℕ) → IsPathOf file path → IsNamed file t →
    AreAtoms file (leaves path t)
unfolding fold_term EachNode
has_atoms file (Var k) path of named =
    All-cons (IsAtomOf file) (record { path = path; var = k }) [] (of, named) (All-nil (IsAtomOf file))
has_atoms file (Int n) path of named = All-nil (IsAtomOf file)
has_atoms file (Neg' _ (more_of-Term t _)) path of named = has_atoms file t path of named.1
has_atoms file (Add' _ (more_of-Term t _) _ (more_of-Term u _)) path of named =
    both file (leaves path t) (leaves path u) (has_atoms file t path of named.1) (has_atoms file u path of named.2)
has_atoms file (Sub' _ (more_of-Term t _) _ (more_of-Term u _)) path of named =
    both file (leaves path t) (leaves path u) (has_atoms file t path of named.1) (has_atoms file u path of named.2)
has_atoms file (Mul' _ (more_of-Term t _) _ (more_of-Term u _)) path of named =
    both file (leaves path t) (leaves path u) (has_atoms file t path of named.1) (has_atoms file u path of named.2)
has_atoms file (Div' _ (more_of-Term t _) _ (more_of-Term u _)) path of named =
    both file (leaves path t) (leaves path u) (has_atoms file t path of named.1) (has_atoms file u path of named.2)
has_atoms file (Pow' _ (more_of-Term t _) n) path of named = has_atoms file t path of named.1
has_atoms file (Hom' f _ (more_of-Term t _)) path of named =
    has_atoms file t (path ++ f ∷ []) (All-push (λ h. h < length file.homs) path f of named.0) named.1

-- the sides of an equation are named in the file
abbrev pub AreNamed : File → Equation → Type 0
AreNamed file e = IsNamed file e.left × IsNamed file e.right

-- so are the atoms of an equation
pub equation_has : (file : File) (path : List ℕ) (e : Equation) → IsPathOf file path → AreNamed file e →
    AreAtoms file (equation_leaves path e)
equation_has file path e of named =
    both file (leaves path e.left) (leaves path e.right) (has_atoms file e.left path of named.0)
    (has_atoms file e.right path of named.1)
