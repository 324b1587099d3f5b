-- The values of polynomials over atoms in a universe.
use Rattle.std.specs.Prelude.{ℕ, List, [], ◌∷◌, slice_index_or}
use Rattle.alg_terms.specs.declared.term.Atom.{Atom}
use Rattle.alg_universe.specs.declared.universe.Universe.{Ghosts}
use Rattle.alg_universe.specs.Value.{number, power}
use Rattle.alg_mono.specs.FiniteMaps.{total}
use Rattle.alg_meaning.specs.Atoms.{Monomial, Polynomial}

module _ {E : Type 0} (u : Ghosts E) where
  -- the image under the morphisms of a path, the innermost first
  abbrev pub along : List ℕ → E → E
  along [] x = x
  along (f ∷ path) x = u.hom f (along path x)

  -- v has the values of the variables, s is the sort
  module _ (v : List E) (s : ℕ) where
    -- an atom: its variable's value under its path
    abbrev pub atom_in : Atom → E
    atom_in a = along a.path (slice_index_or v a.var (u.zero s))

    -- a monomial: the product of the powers of its atoms
    abbrev pub mono_in : Monomial → E
    mono_in m = total (u.one s) (u.mul s) (λ a e. power u s (atom_in a) e) m

    -- a polynomial: the sum of its coefficients times its monomials
    abbrev pub poly_in : Polynomial → E
    poly_in p = total (u.zero s) (u.add s) (λ m c. u.mul s (number u s c) (mono_in m)) p
