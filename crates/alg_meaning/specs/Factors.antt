-- The words for factors at atoms.
use Rattle.std.specs.Prelude.{ℤ}
use Rattle.std.specs.declared.cmp.Ordering.{Ordering}
use Rattle.alg_terms.specs.declared.term.Atom.{Atom}
use Rattle.alg_meaning.specs.Atoms.{Monomial, Polynomial, atom_cmp}
use Rattle.alg_meaning.specs.FactorsOver as over
use Rattle.alg_meaning.specs.FactorsOver.{FactorsOver}

-- polynomials over atoms, with exponents
abbrev pub Factors : Type 0
Factors = FactorsOver Atom

-- the order of the terms of polynomials
abbrev pub term_cmp : Monomial × ℤ → Monomial × ℤ → Ordering
term_cmp e f = over.term_cmp atom_cmp e f

-- the order of polynomials
abbrev pub poly_cmp : Polynomial → Polynomial → Ordering
poly_cmp p q = over.poly_cmp atom_cmp p q

-- the product of all factors, each as often as its exponent says
abbrev pub product : Factors → Polynomial
product m = over.product atom_cmp m

-- the factors that a lacks of b
abbrev pub lacks : Factors → Factors → Factors
lacks a b = over.lacks atom_cmp a b

-- the greater exponent of each factor
abbrev pub common : Factors → Factors → Factors
common a b = over.common atom_cmp a b
