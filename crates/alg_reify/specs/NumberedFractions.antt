-- Fractions over the atoms of a table, by the numbers of the atoms, and what numbering keeps of them.
use Rattle.std.specs.Prelude.{ℕ, List, Contains}
use Rattle.std.specs.Ordering.{nat_cmp}
use Rattle.alg_terms.specs.declared.term.Atom.{Atom}
use Rattle.alg_mono.specs.FiniteMaps.{Each, IsCanonical, rename}
use Rattle.alg_mono.specs.Numbers.{exponents, integers}
use Rattle.alg_mono.specs.Polynomials.{IsPolynomial}
use Rattle.alg_meaning.specs.Atoms.{Polynomial, atom_cmp}
use Rattle.alg_meaning.specs.FactorsOver.{poly_cmp}
use Rattle.alg_meaning.specs.Fractions.{Fraction}
use Rattle.alg_meaning.specs.FractionsOver.{FractionOver}
use Rattle.alg_reify.specs.KeptFractions.{KeepsFractions, KeepsRules, KeepsTests}
use Rattle.alg_reify.specs.Numbered.{numbered}

-- the fraction with the number of each atom in its place
abbrev pub numbered_fraction : List Atom → Fraction → FractionOver ℕ
numbered_fraction atoms a =
    record { top = numbered atoms a.top; below = rename (poly_cmp nat_cmp) exponents (numbered atoms) a.below }

-- a polynomial over atoms of the table
pub record IsPolynomialOf (atoms : List Atom) (p : Polynomial) : Type 0 where
  pub polynomial : IsPolynomial atom_cmp integers p
  pub held : Each (λ m. Each (Contains atoms) m) p

-- a fraction over atoms of the table: its factors are a finite map
pub record IsFractionOf (atoms : List Atom) (a : Fraction) : Type 0 where
  pub top : IsPolynomialOf atoms a.top
  pub canonical : IsCanonical (poly_cmp atom_cmp) exponents a.below
  pub below : Each (IsPolynomialOf atoms) a.below

-- numbering keeps two fractions, the rules that they break, and the tests on a numerator
abbrev pub NumberingKeepsFractions : List Atom → Fraction → Fraction → Type 0
NumberingKeepsFractions atoms a b =
    KeepsFractions atom_cmp nat_cmp (numbered atoms) (numbered_fraction atoms) a b

abbrev pub NumberingKeepsRules : List Atom → Fraction → Fraction → Type 0
NumberingKeepsRules atoms a b = KeepsRules atom_cmp nat_cmp (numbered atoms) (numbered_fraction atoms) a b

abbrev pub NumberingKeepsTests : List Atom → Polynomial → Type 0
NumberingKeepsTests atoms p = KeepsTests atom_cmp nat_cmp (numbered atoms) (numbered_fraction atoms) p

-- numbering the atoms of a table keeps fractions, the rules that they break, and the tests on their numerators
pub record NumberingKeeps : Type 0 where
  pub fractions : (atoms : List Atom) (a b : Fraction) → IsFractionOf atoms a → IsFractionOf atoms b →
      NumberingKeepsFractions atoms a b
  pub rules : (atoms : List Atom) (a b : Fraction) → IsFractionOf atoms a → IsFractionOf atoms b →
      NumberingKeepsRules atoms a b
  pub tests : (atoms : List Atom) (p : Polynomial) → IsPolynomialOf atoms p → NumberingKeepsTests atoms p
