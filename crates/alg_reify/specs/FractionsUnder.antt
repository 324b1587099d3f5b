-- The fraction of a term under a path of morphisms, over the numbers of a table: what a recursion over terms goes by.
use Rattle.std.specs.Prelude.{◌≡◌, ℕ, ℤ, List, [], ◌∷◌, ◌++◌, All, Contains}
use Rattle.std.specs.Ordering.{nat_cmp}
use Rattle.alg_terms.specs.declared.term.Atom.{Atom}
use Rattle.alg_terms.specs.declared.term.Term.{Term}
use Rattle.alg_terms.specs.declared.term.Term.TheVariants.{Var, Int, Hom}
use Rattle.alg_mono.specs.FiniteMaps.{rename}
use Rattle.alg_mono.specs.NumberedPolynomials.{atom_of, term_of}
use Rattle.alg_mono.specs.Numbers.{exponents}
use Rattle.alg_mono.specs.Polynomials.{PolyOver}
use Rattle.alg_meaning.specs.Atoms.{Polynomial, atom_cmp, poly_under, poly_along}
use Rattle.alg_meaning.specs.Factors.{poly_cmp}
use Rattle.alg_meaning.specs.Fractions.{Fraction, frac}
use Rattle.alg_meaning.specs.FractionsOver.{FractionOver}
use Rattle.alg_reify.specs.KeptFractions.{KeepsFractions, KeepsRules, KeepsTests}
use Rattle.alg_reify.specs.Numbered.{number_of, numbered}
use Rattle.alg_reify.specs.NumberedFractions.{IsFractionOf, numbered_fraction}
use Rattle.alg_reify.specs.Table.{leaves}

-- a morphism renames the numerator and each factor
abbrev pub frac_under : ℕ → Fraction → Fraction
frac_under f a = record { top = poly_under f a.top; below = rename poly_cmp exponents (poly_under f) a.below }

-- renamed by the morphisms of a path, the innermost first
abbrev pub frac_along : List ℕ → Fraction → Fraction
frac_along [] a = a
frac_along (f ∷ path) a = frac_under f (frac_along path a)

-- a polynomial, and a fraction, under a path, by the numbers of the atoms
abbrev pub numbered_along : List Atom → List ℕ → Polynomial → PolyOver ℕ
numbered_along atoms path p = numbered atoms (poly_along path p)

abbrev pub numbered_frac_along : List Atom → List ℕ → Fraction → FractionOver ℕ
numbered_frac_along atoms path a = numbered_fraction atoms (frac_along path a)

-- the fraction of a term under a path, by the numbers of the atoms
abbrev pub made_fraction : List Atom → List ℕ → Term → FractionOver ℕ
made_fraction atoms path t = numbered_frac_along atoms path (frac t)

-- the table holds the atoms of the term under the path
abbrev pub IsHeld : List Atom → List ℕ → Term → Type 0
IsHeld atoms path t = All (Contains atoms) (leaves path t)

-- the fraction of a term under a path is one over the table, and is made node by node from those of its parts, the
-- parts of an image under the longer path; on the way the same rules are broken, and tests give the same
pub record FractionsUnderPaths : Type 0 where
  pub held : (atoms : List Atom) (path : List ℕ) (t : Term) → IsHeld atoms path t →
      IsFractionOf atoms (frac_along path (frac t))
  pub variable : (atoms : List Atom) (path : List ℕ) (k : ℕ) →
      made_fraction atoms path (Var k)
      ≡ record { top = atom_of (number_of atoms (record { path = path; var = k })); below = [] }
  pub literal : (atoms : List Atom) (path : List ℕ) (n : ℤ) →
      made_fraction atoms path (Int n) ≡ record { top = term_of [] n; below = [] }
  pub image : (path : List ℕ) (f : ℕ) (t : Term) →
      frac_along path (frac (Hom f t)) ≡ frac_along (path ++ f ∷ []) (frac t)
  pub fractions : (atoms : List Atom) (path : List ℕ) (t u : Term) → IsHeld atoms path t → IsHeld atoms path u →
      KeepsFractions atom_cmp nat_cmp (numbered_along atoms path) (numbered_frac_along atoms path) (frac t) (frac u)
  pub rules : (atoms : List Atom) (path : List ℕ) (t u : Term) → IsHeld atoms path t → IsHeld atoms path u →
      KeepsRules atom_cmp nat_cmp (numbered_along atoms path) (numbered_frac_along atoms path) (frac t) (frac u)
  pub tests : (atoms : List Atom) (path : List ℕ) (t : Term) → IsHeld atoms path t →
      KeepsTests atom_cmp nat_cmp (numbered_along atoms path) (numbered_frac_along atoms path) (frac t).top
