-- The polynomials over atoms as a universe: every sort is the same domain of characteristic 0, and every morphism maps
-- every sort to every sort by its renaming.
use Rattle.std.specs.Prelude.{ℕ, Bool, true, []}
use Rattle.alg_terms.specs.declared.declarations.Kind.{Kind}
use Rattle.alg_terms.specs.declared.declarations.Kind.TheVariants.{Domain}
use Rattle.alg_mono.specs.Numbers.{integers}
use Rattle.alg_mono.specs.Polynomials.{IsPolynomial, poly_neg}
use Rattle.alg_meaning.specs.Atoms.{Polynomial, atom_cmp, plus, times_poly, one_poly, poly_under}

-- the carrier of every sort: all polynomials over atoms
abbrev pub has : ℕ → Polynomial → Type 0
has s p = IsPolynomial atom_cmp integers p

abbrev pub zero : ℕ → Polynomial
zero s = []

abbrev pub one : ℕ → Polynomial
one s = one_poly

abbrev pub add : ℕ → Polynomial → Polynomial → Polynomial
add s p q = plus p q

abbrev pub opp : ℕ → Polynomial → Polynomial
opp s p = poly_neg p

abbrev pub mul : ℕ → Polynomial → Polynomial → Polynomial
mul s p q = times_poly p q

-- no sort is a field, so any element serves
abbrev pub inv : ℕ → Polynomial → Polynomial
inv s p = []

abbrev pub hom : ℕ → Polynomial → Polynomial
hom f p = poly_under f p

abbrev pub kind : ℕ → Kind
kind s = Domain

abbrev pub char0 : ℕ → Bool
char0 s = true

abbrev pub maps : ℕ → ℕ → ℕ → Type 0
maps f s t = Unit {0}
