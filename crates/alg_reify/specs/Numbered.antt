-- Polynomials over the atoms of a table, by the numbers of the atoms.
use Rattle.std.specs.Prelude.{ℕ, List, [], slice_index_or}
use Rattle.std.specs.List.{position_or_len}
use Rattle.std.specs.Ordering.{nat_cmp}
use Rattle.alg_terms.specs.declared.term.Atom.{Atom}
use Rattle.alg_mono.specs.FiniteMaps.{rename}
use Rattle.alg_mono.specs.Numbers.{exponents, integers}
use Rattle.alg_mono.specs.Polynomials.{PolyOver}
use Rattle.alg_mono.specs.Mono.{Monomial}
use Rattle.alg_mono.specs.NumberedPolynomials.{before}
use Rattle.alg_meaning.specs.Atoms.{atom_cmp}
use Rattle.alg_reify.specs.Table.{atom_eq}

-- the number of an atom: the first place in the table where it stands, from 0
abbrev pub number_of : List Atom → Atom → ℕ
number_of atoms a = position_or_len (atom_eq a) atoms

-- the atom of a number, and some atom where the table has none
abbrev pub atom_at : List Atom → ℕ → Atom
atom_at atoms k = slice_index_or atoms k (record { path = []; var = 0 })

-- the monomial with the number of each atom in its place
abbrev pub numbered_monomial : List Atom → List (Atom × ℕ) → Monomial
numbered_monomial atoms m = rename nat_cmp exponents (number_of atoms) m

-- a monomial over numbers read as one over atoms: each number's atom stands in its place
abbrev pub over_atoms : List Atom → Monomial → List (Atom × ℕ)
over_atoms atoms m = rename atom_cmp exponents (atom_at atoms) m

-- the polynomial with the number of each atom in its place
abbrev pub numbered : List Atom → PolyOver Atom → PolyOver ℕ
numbered atoms p = rename before integers.amounts (numbered_monomial atoms) p
