-- Atoms, and monomials and polynomials over them.
use Rattle.std.specs.Prelude.{ℕ, List, [], ◌∷◌, ℤ, pos}
use Rattle.std.specs.declared.cmp.Ordering.{Ordering}
use Rattle.std.specs.Ordering.{ordering_then, nat_cmp}
use Rattle.std.specs.Cmp.Lexicographic.{slice_cmp}
use Rattle.alg_terms.specs.declared.term.Atom.{Atom}
use Rattle.alg_mono.specs.FiniteMaps.{rename}
use Rattle.alg_mono.specs.Numbers.{exponents, integers}
use Rattle.alg_mono.specs.Monomials.{mono_times, grevlex}
use Rattle.alg_mono.specs.Polynomials.{poly_plus, poly_minus, poly_times, poly_power}

-- the order of atoms: by the paths as lists of numbers, then by the variables
abbrev pub atom_cmp : Atom → Atom → Ordering
atom_cmp a b = ordering_then (slice_cmp nat_cmp a.path b.path) (nat_cmp a.var b.var)

-- a product of powers of atoms
abbrev pub Monomial : Type 0
Monomial = List (Atom × ℕ)

-- a finite map from monomials to whole numbers
abbrev pub Polynomial : Type 0
Polynomial = List (Monomial × ℤ)

-- the order of a polynomial's list: the greatest monomial in grevlex first
abbrev pub falling : Monomial → Monomial → Ordering
falling m n = grevlex atom_cmp n m

-- the product of monomials
abbrev pub times : Monomial → Monomial → Monomial
times m n = mono_times atom_cmp m n

-- the usual operations on polynomials over atoms
abbrev pub plus : Polynomial → Polynomial → Polynomial
plus p q = poly_plus falling integers p q

abbrev pub minus : Polynomial → Polynomial → Polynomial
minus p q = poly_minus falling p q

abbrev pub times_poly : Polynomial → Polynomial → Polynomial
times_poly p q = poly_times falling integers times p q

abbrev pub power_poly : Polynomial → ℕ → Polynomial
power_poly p n = poly_power falling integers [] times p n

-- the polynomial 1
abbrev pub one_poly : Polynomial
one_poly = ([], pos 1) ∷ []

-- a variable as an atom, with the empty path
abbrev pub variable : ℕ → Atom
variable k = record { path = []; var = k }

-- an atom as a polynomial
abbrev pub atom_poly : Atom → Polynomial
atom_poly a = ((a, 1) ∷ [], pos 1) ∷ []

-- a morphism renames each atom: it stands before the atom's path
abbrev pub put_before : ℕ → Atom → Atom
put_before f a = record { path = f ∷ a.path; var = a.var }

abbrev pub mono_under : ℕ → Monomial → Monomial
mono_under f m = rename atom_cmp exponents (put_before f) m

abbrev pub poly_under : ℕ → Polynomial → Polynomial
poly_under f p = rename falling integers.amounts (mono_under f) p

-- renamed by the morphisms of a path, the innermost first
abbrev pub poly_along : List ℕ → Polynomial → Polynomial
poly_along [] p = p
poly_along (f ∷ path) p = poly_under f (poly_along path p)
