-- The fraction of a term.
use Rattle.std.specs.Prelude.{Bool, []}
use Rattle.alg_terms.specs.declared.term.Atom.{Atom}
use Rattle.alg_terms.specs.declared.term.Term.{Term}
use Rattle.alg_terms.specs.declared.term.Term.TheOpen.{Term-F}
use Rattle.alg_terms.specs.Nodes.{fold_term}
use Rattle.alg_mono.specs.FiniteMaps.{rename}
use Rattle.alg_mono.specs.Numbers.{exponents, integers}
use Rattle.alg_mono.specs.Polynomials.{poly_term}
use Rattle.alg_meaning.specs.Atoms.{Polynomial, atom_cmp, falling, variable, atom_poly, poly_under}
use Rattle.alg_meaning.specs.Factors.{poly_cmp}
use Rattle.alg_meaning.specs.FractionsOver as over
use Rattle.alg_meaning.specs.FractionsOver.{FractionOver, frac_opposite, frac_sum, frac_difference, frac_product, frac_power}

-- a polynomial over atoms, divided by a product of such
abbrev pub Fraction : Type 0
Fraction = FractionOver Atom

-- the polynomial is 1 or -1
abbrev pub is_unit : Polynomial → Bool
is_unit p = over.is_unit atom_cmp p

-- the numerator of a over the common factors of a and b
abbrev pub cleared : Fraction → Fraction → Polynomial
cleared a b = over.cleared atom_cmp a b

-- a by b, where b's numerator is 1 or -1, and else
abbrev pub quotient : Bool → Fraction → Fraction → Fraction
quotient unit a b = over.frac_quotient atom_cmp unit a b

-- one node's fraction by those of its parts
abbrev pub node_frac : Term-F Fraction → Fraction
node_frac (Term-F.Var k) = record { top = atom_poly (variable k); below = [] }
node_frac (Term-F.Int n) = record { top = poly_term falling integers [] n; below = [] }
node_frac (Term-F.Neg a) = frac_opposite a
node_frac (Term-F.Add a b) = frac_sum atom_cmp a b
node_frac (Term-F.Sub a b) = frac_difference atom_cmp a b
node_frac (Term-F.Mul a b) = frac_product atom_cmp a b
node_frac (Term-F.Div a b) = quotient (is_unit b.top) a b
node_frac (Term-F.Pow a n) = frac_power atom_cmp a n
node_frac (Term-F.Hom f a) =
    record { top = poly_under f a.top; below = rename poly_cmp exponents (poly_under f) a.below }

-- the fraction of a term
abbrev pub frac : Term → Fraction
frac = fold_term node_frac
