-- What the universe of polynomials says of terms.
use Rattle.std.specs.Prelude.{◌≡◌, ◌≢◌, ℕ, zero, suc, List, [], ◌∷◌, length}
use Rattle.alg_terms.specs.declared.file.File.{File}
use Rattle.alg_terms.specs.declared.term.Term.{Term}
use Rattle.alg_universe.specs.declared.universe.Universe.{Ghosts}
use Rattle.alg_universe.specs.Value.{AreValues, value}
use Rattle.alg_meaning.specs.Atoms.{Polynomial, atom_poly, variable}
use Rattle.alg_meaning.specs.PolynomialOf.{poly_of}
use Rattle.alg_meaning.specs.Laws.{IsPlainAt}

-- the atoms of count variables from the first on
abbrev pub atoms_from : ℕ → ℕ → List Polynomial
atoms_from first zero = []
atoms_from first (suc count) = atom_poly (variable first) ∷ atoms_from (suc first) count

-- each variable of a file stands for its atom
abbrev pub atoms_of : File → List Polynomial
atoms_of file = atoms_from 0 (length file.vars)

-- the atoms of a file are values of its variables, in a universe of polynomials
abbrev pub AtomsAreValues : Ghosts Polynomial → Type 0
AtomsAreValues u = (file : File) → AreValues u file (atoms_of file)

-- the value at the atoms of a term without quotients is its polynomial
abbrev pub ValuesArePolynomials : Ghosts Polynomial → Type 0
ValuesArePolynomials u =
    (file : File) (s : ℕ) (t : Term) → IsPlainAt file s t → value u file (atoms_of file) s t ≡ poly_of t

-- two terms with different polynomials have different values at the atoms
abbrev pub DifferentPolynomials : Ghosts Polynomial → Type 0
DifferentPolynomials u =
    (file : File) (s : ℕ) (left right : Term) → IsPlainAt file s left → IsPlainAt file s right →
    poly_of left ≢ poly_of right →
    value u file (atoms_of file) s left ≢ value u file (atoms_of file) s right
