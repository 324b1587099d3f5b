-- The monomial of a verdict No is one of a polynomial within the limits.
use Rattle.std.specs.Prelude.{◌≤◌, List}
use Rattle.std.proofs.Common.{arith}
use Rattle.std.specs.Cmp.{nat_cmp_total}
use Rattle.std.specs.FinMap.{nat_cmp-IsAntisymmetric}
use Rattle.std.specs.Ordering.{nat_cmp}
use Rattle.alg_terms.specs.declared.term.Atom.{Atom}
use Rattle.alg_mono.specs.FiniteMaps.{Each, renamed}
use Rattle.alg_mono.specs.Monomials.{IsMono, MAX_DEGREE, degree}
use Rattle.alg_mono.specs.NumberedPolynomials.{before}
use Rattle.alg_mono.specs.Numbers.{integers}
use Rattle.alg_mono.specs.Polynomials.{poly_degree}
use Rattle.alg_mono.proofs.Degrees.{degrees_within}
use Rattle.alg_mono.proofs.Each.{Each-collect, Each-renamed}
use Rattle.alg_mono.proofs.Sums.{IsMono-collect}
use Rattle.alg_meaning.specs.Atoms.{Polynomial}
use Rattle.alg_meaning.specs.PolynomialOf.{poly_of}
use Rattle.alg_meaning.specs.TermOutcome.{term_outcome}
use Rattle.alg_reify.specs.FieldLaws.{FieldNoIsAMonomial}
use Rattle.alg_reify.specs.FieldVerdict.{left_numerator, right_numerator}
use Rattle.alg_reify.specs.Laws.{NoIsAMonomial}
use Rattle.alg_reify.specs.Numbered.{number_of, numbered, numbered_monomial}
use Rattle.alg_reify.specs.RingVerdict.{own_table}
use Rattle.alg_reify.proofs.Differences.{of_either}
use Rattle.alg_reify.proofs.FieldRanges.{numerators_within}
use Rattle.alg_reify.proofs.Ranges.{both_fine, term_within}
use Rattle.alg_reify.proofs.Undone.{degree-renamed}

-- the monomials of a numbered polynomial, where its degree is within the limit
monomials_of : (atoms : List Atom) (p : Polynomial) → poly_degree p ≤ MAX_DEGREE →
    Each (λ m. IsMono nat_cmp m) (numbered atoms p)
monomials_of atoms p small =
    let number = numbered_monomial atoms in
    Each-collect before integers.amounts (λ m. IsMono nat_cmp m) (renamed number p)
    (Each-renamed number (λ m. degree m ≤ MAX_DEGREE) (λ m. IsMono nat_cmp m)
    (λ m h. IsMono-collect nat_cmp_total nat_cmp-IsAntisymmetric (renamed (number_of atoms) m)
    (omega (arith, degree-renamed (number_of atoms) m, h))) p (degrees_within MAX_DEGREE p small))

-- both sides have such monomials alone, and that of No is one of either
pub no_is_a_monomial : NoIsAMonomial
no_is_a_monomial file e m a b h =
    let atoms = own_table file e in
    let fine = both_fine (term_outcome e.left) (term_outcome e.right) h.0.1 in
    of_either (λ n. IsMono nat_cmp n) (numbered atoms (poly_of e.left)) (numbered atoms (poly_of e.right)) m a b
    (monomials_of atoms (poly_of e.left) (term_within e.left fine.0).small)
    (monomials_of atoms (poly_of e.right) (term_within e.right fine.1).small) h.1

-- so have both numerators
pub field_no_is_a_monomial : FieldNoIsAMonomial
field_no_is_a_monomial file e m a b h =
    let atoms = own_table file e in
    let within = numerators_within e h.0.1 in
    of_either (λ n. IsMono nat_cmp n) (numbered atoms (left_numerator e)) (numbered atoms (right_numerator e)) m a b
    (monomials_of atoms (left_numerator e) within.0.small) (monomials_of atoms (right_numerator e) within.1.small) h.1
