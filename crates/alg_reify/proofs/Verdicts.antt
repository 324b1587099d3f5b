-- The verdicts by ring: there is one, and what a verdict No says.
use Rattle.std.specs.Prelude.{◌≢◌, List, [], ℤ, All, Contains}
use Rattle.std.proofs.Common.{refl, ap, arith}
use Rattle.std.proofs.lemmas.List.Elements.{recursion_from_All}
use Rattle.alg_terms.specs.declared.term.Atom.{Atom}
use Rattle.alg_terms.specs.declared.term.Term.{Term}
use Rattle.alg_terms.specs.declared.file.File.{File}
use Rattle.alg_terms.specs.declared.goals.Equation.{Equation}
use Rattle.alg_mono.specs.Mono.{Monomial}
use Rattle.alg_mono.specs.NumberedPolynomials.{Polynomial}
use Rattle.alg_meaning.specs.Atoms.{atom_cmp}
use Rattle.alg_meaning.specs.PolynomialOf.{poly_of}
use Rattle.alg_meaning.proofs.Canonical.{IsPolynomial-poly_of}
use Rattle.alg_reify.specs.Table.{leaves}
use Rattle.alg_reify.specs.Numbered.{numbered}
use Rattle.alg_reify.specs.RingVerdict.{RingVerdict, IsRingVerdict, own_table}
use Rattle.alg_reify.specs.Laws.{OneRingVerdict, NoDiffers, NoIsOverTheTable}
use Rattle.alg_reify.proofs.AtomsIn.{atoms_in}
use Rattle.alg_reify.proofs.Differences.{differ_nowhere, one_difference, over_table, left_at, right_at}
use Rattle.alg_reify.proofs.FractionsIn.{IsPolynomialIn}
use Rattle.alg_reify.proofs.Held.{held_left, held_right}

-- the sides as numbered polynomials
abbrev left_of : File → Equation → Polynomial
left_of file e = numbered (own_table file e) (poly_of e.left)

abbrev right_of : File → Equation → Polynomial
right_of file e = numbered (own_table file e) (poly_of e.right)

-- where the verdict is No, the polynomials differ
different : (file : File) (e : Equation) (m : Monomial) (a b : ℤ) → IsRingVerdict file e (RingVerdict.No m a b) →
    poly_of e.left ≢ poly_of e.right
different file e m a b h same =
    differ_nowhere (left_of file e) (right_of file e) m a b (ap (numbered (own_table file e)) same) h.1

-- two verdicts on an equation are one
pub one_ring_verdict : OneRingVerdict
one_ring_verdict file e RingVerdict.Atoms RingVerdict.Atoms h g = refl
one_ring_verdict file e RingVerdict.Atoms RingVerdict.Range h g = absurd (omega arith)
one_ring_verdict file e RingVerdict.Atoms RingVerdict.Degree h g = absurd (omega arith)
one_ring_verdict file e RingVerdict.Atoms RingVerdict.Proved h g = absurd (omega arith)
one_ring_verdict file e RingVerdict.Atoms (RingVerdict.No n c d) h g = absurd (omega arith)
one_ring_verdict file e RingVerdict.Range RingVerdict.Atoms h g = absurd (omega arith)
one_ring_verdict file e RingVerdict.Range RingVerdict.Range h g = refl
one_ring_verdict file e RingVerdict.Range RingVerdict.Degree h g = absurd (cc)
one_ring_verdict file e RingVerdict.Range RingVerdict.Proved h g = absurd (cc)
one_ring_verdict file e RingVerdict.Range (RingVerdict.No n c d) h g = absurd (cc)
one_ring_verdict file e RingVerdict.Degree RingVerdict.Atoms h g = absurd (omega arith)
one_ring_verdict file e RingVerdict.Degree RingVerdict.Range h g = absurd (cc)
one_ring_verdict file e RingVerdict.Degree RingVerdict.Degree h g = refl
one_ring_verdict file e RingVerdict.Degree RingVerdict.Proved h g = absurd (cc)
one_ring_verdict file e RingVerdict.Degree (RingVerdict.No n c d) h g = absurd (cc)
one_ring_verdict file e RingVerdict.Proved RingVerdict.Atoms h g = absurd (omega arith)
one_ring_verdict file e RingVerdict.Proved RingVerdict.Range h g = absurd (cc)
one_ring_verdict file e RingVerdict.Proved RingVerdict.Degree h g = absurd (cc)
one_ring_verdict file e RingVerdict.Proved RingVerdict.Proved h g = refl
one_ring_verdict file e RingVerdict.Proved (RingVerdict.No n c d) h g = absurd (different file e n c d g h.1)
one_ring_verdict file e (RingVerdict.No m a b) RingVerdict.Atoms h g = absurd (omega arith)
one_ring_verdict file e (RingVerdict.No m a b) RingVerdict.Range h g = absurd (cc)
one_ring_verdict file e (RingVerdict.No m a b) RingVerdict.Degree h g = absurd (cc)
one_ring_verdict file e (RingVerdict.No m a b) RingVerdict.Proved h g = absurd (different file e m a b h g.1)
one_ring_verdict file e (RingVerdict.No m a b) (RingVerdict.No n c d) h g =
    let is = one_difference (left_of file e) (right_of file e) m n a b c d h.1 g.1 in
    λ i. RingVerdict.No (is.0 i) (is.1 i) (is.2 i)

-- the polynomial of a side is over the table
side_in : (atoms : List Atom) (t : Term) → All (Contains atoms) (leaves [] t) →
    IsPolynomialIn atom_cmp (Contains atoms) (poly_of t)
side_in atoms t held = record {
  polynomial = IsPolynomial-poly_of t;
  held = atoms_in (Contains atoms) [] t (recursion_from_All (Contains atoms) (leaves [] t) held);
}

module _ (file : File) (e : Equation) where
  left_in : IsPolynomialIn atom_cmp (Contains (own_table file e)) (poly_of e.left)
  left_in = side_in (own_table file e) e.left (held_left file e [])

  right_in : IsPolynomialIn atom_cmp (Contains (own_table file e)) (poly_of e.right)
  right_in = side_in (own_table file e) e.right (held_right file e [])

pub no_is_over_the_table : NoIsOverTheTable
no_is_over_the_table file e m a b h =
    over_table (own_table file e) (poly_of e.left) (poly_of e.right) (left_in file e) (right_in file e) m a b h.1

-- where the verdict is No, the sides have its coefficients at its atoms
pub no_differs : NoDiffers
no_differs file e m a b h =
    let atoms = own_table file e in
    record {
      polynomials = different file e m a b h;
      left = left_at atoms (poly_of e.left) (poly_of e.right) (left_in file e) (right_in file e) m a b h.1;
      right = right_at atoms (poly_of e.left) (poly_of e.right) (left_in file e) (right_in file e) m a b h.1;
      differ = h.1.differ;
    }
