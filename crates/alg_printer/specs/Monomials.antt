-- The text of a monomial over a goal's atoms.
use Rattle.std.specs.Prelude.{◌<◌, ℕ, List, [], ◌∷◌, ◌++◌, codes, decimal, length, All, nat_lt, if◌then◌else◌, slice_index_or}
use Rattle.alg_mono.specs.Mono.{Monomial}
use Rattle.alg_terms.specs.declared.file.File.{File}
use Rattle.alg_terms.specs.declared.term.Atom.{Atom}
use Rattle.alg_printer.specs.Names.{var_name, under, listed, IsPathOf}

-- an atom: its path over its variable
abbrev pub atom_text : File → Atom → List ℕ
atom_text file atom = under file atom.path (var_name file atom.var)

-- the atom that stands for one that is not there
abbrev pub no_atom : Atom
no_atom = record { path = []; var = 0 }

-- atom number k
abbrev pub atom_at : List Atom → ℕ → Atom
atom_at atoms k = slice_index_or atoms k no_atom

-- an exponent above 1
abbrev pub exponent_text : ℕ → List ℕ
exponent_text n = if nat_lt 1 n then codes "^" ++ decimal n else []

-- a factor of a monomial: an atom to its exponent
abbrev pub factor_text : File → List Atom → ℕ × ℕ → List ℕ
factor_text file atoms e = atom_text file (atom_at atoms e.0) ++ exponent_text e.1

-- factors with `*` between
abbrev pub factors_text : File → List Atom → Monomial → List ℕ
factors_text file atoms m = listed [] (codes "*") (factor_text file atoms) m

-- a monomial: 1, or its factors
abbrev pub mono_text : File → List Atom → Monomial → List ℕ
mono_text file atoms [] = codes "1"
mono_text file atoms (e ∷ m) = factors_text file atoms (e ∷ m)

-- the variable and the morphisms of an atom are of the file
abbrev pub IsAtomOf : File → Atom → Type 0
IsAtomOf file atom = IsPathOf file atom.path × (atom.var < length file.vars)

-- the atoms of a monomial are among these
abbrev pub IsOverAtoms : List Atom → Monomial → Type 0
IsOverAtoms atoms m = All (λ e. e.0 < length atoms) m
