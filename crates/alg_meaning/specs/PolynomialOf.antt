-- The polynomial of a term without quotients.
use Rattle.std.specs.Prelude.{ℕ, List, []}
use Rattle.alg_terms.specs.declared.term.Term.{Term}
use Rattle.alg_terms.specs.declared.term.Term.TheOpen.{Term-F}
use Rattle.alg_terms.specs.Nodes.{fold_term}
use Rattle.alg_mono.specs.Numbers.{integers}
use Rattle.alg_mono.specs.Polynomials.{poly_neg, poly_term}
use Rattle.alg_meaning.specs.Atoms.{Polynomial, falling, plus, minus, times_poly, power_poly, variable, atom_poly, poly_under, poly_along}

-- one node's polynomial by those of its parts; a quotient has none, and counts as zero
abbrev pub node_poly : Term-F Polynomial → Polynomial
node_poly (Term-F.Var k) = atom_poly (variable k)
node_poly (Term-F.Int n) = poly_term falling integers [] n
node_poly (Term-F.Neg p) = poly_neg p
node_poly (Term-F.Add p q) = plus p q
node_poly (Term-F.Sub p q) = minus p q
node_poly (Term-F.Mul p q) = times_poly p q
node_poly (Term-F.Div p q) = []
node_poly (Term-F.Pow p n) = power_poly p n
node_poly (Term-F.Hom f p) = poly_under f p

-- the polynomial of a term: each variable stands for its atom, each morphism renames
abbrev pub poly_of : Term → Polynomial
poly_of = fold_term node_poly

-- the polynomial of a term under a path of morphisms, the outermost first
abbrev pub poly_of_under : List ℕ → Term → Polynomial
poly_of_under path t = poly_along path (poly_of t)
