-- The verdicts by field: there is one, and what a verdict says.
use Rattle.std.specs.Prelude.{◌≡◌, ◌≢◌, List, [], ℤ, Contains}
use Rattle.std.proofs.Common.{refl, sym, ap, ◌∙◌, arith}
use Rattle.std.specs.Cmp.{nat_cmp_total}
use Rattle.std.specs.FinMap.{nat_cmp-IsAntisymmetric}
use Rattle.std.specs.Ordering.{nat_cmp}
use Rattle.alg_terms.specs.declared.term.Atom.{Atom}
use Rattle.alg_terms.specs.declared.file.File.{File}
use Rattle.alg_terms.specs.declared.goals.Equation.{Equation}
use Rattle.alg_mono.specs.Mono.{Monomial}
use Rattle.alg_mono.specs.NumberedPolynomials.{Polynomial}
use Rattle.alg_meaning.specs.Atoms.{atom_cmp}
use Rattle.alg_meaning.specs.Atoms as over
use Rattle.alg_meaning.specs.Fractions.{frac}
use Rattle.alg_meaning.specs.Orders.{atom_total, atom_anti}
use Rattle.alg_reify.specs.FieldLaws.{OneFieldVerdict, FieldNoDiffers, FieldNoIsOverTheTable, SidesByNumbers}
use Rattle.alg_reify.specs.FieldVerdict.{FieldVerdict, IsFieldVerdict, left_numerator, right_numerator}
use Rattle.alg_reify.specs.Numbered.{number_of, numbered, atom_at}
use Rattle.alg_reify.specs.RingVerdict.{own_table}
use Rattle.alg_reify.proofs.Differences.{differ_nowhere, one_difference, over_table, left_at, right_at}
use Rattle.alg_reify.proofs.FractionsIn.{IsPolynomialIn, IsFractionIn, cleared_in}
use Rattle.alg_reify.proofs.FractionsUnder.{fractions_under_paths}
use Rattle.alg_reify.proofs.Held.{held_left, held_right}
use Rattle.alg_reify.proofs.Images.{poly_image}
use Rattle.alg_reify.proofs.KeptFractions.{comes_back}
use Rattle.alg_reify.proofs.MayStand.{same_denominator}
use Rattle.alg_reify.proofs.NumberedFractions.{comes, fraction_in_table}

-- the cleared numerators as numbered polynomials
abbrev left_of : File → Equation → Polynomial
left_of file e = numbered (own_table file e) (left_numerator e)

abbrev right_of : File → Equation → Polynomial
right_of file e = numbered (own_table file e) (right_numerator e)

-- where the verdict is No, the cleared numerators differ
different : (file : File) (e : Equation) (m : Monomial) (a b : ℤ) → IsFieldVerdict file e (FieldVerdict.No m a b) →
    left_numerator e ≢ right_numerator e
different file e m a b h same =
    differ_nowhere (left_of file e) (right_of file e) m a b (ap (numbered (own_table file e)) same) h.1

-- two verdicts on an equation are one
pub one_field_verdict : OneFieldVerdict
one_field_verdict file e FieldVerdict.Atoms FieldVerdict.Atoms h g = refl
one_field_verdict file e FieldVerdict.Atoms FieldVerdict.Range h g = absurd (omega arith)
one_field_verdict file e FieldVerdict.Atoms FieldVerdict.Degree h g = absurd (omega arith)
one_field_verdict file e FieldVerdict.Atoms (FieldVerdict.ZeroDenominator u) h g = absurd (omega arith)
one_field_verdict file e FieldVerdict.Atoms (FieldVerdict.Proved us) h g = absurd (omega arith)
one_field_verdict file e FieldVerdict.Atoms (FieldVerdict.No n c d) h g = absurd (omega arith)
one_field_verdict file e FieldVerdict.Range FieldVerdict.Atoms h g = absurd (omega arith)
one_field_verdict file e FieldVerdict.Range FieldVerdict.Range h g = refl
one_field_verdict file e FieldVerdict.Range FieldVerdict.Degree h g = absurd (cc)
one_field_verdict file e FieldVerdict.Range (FieldVerdict.ZeroDenominator u) h g = absurd (cc)
one_field_verdict file e FieldVerdict.Range (FieldVerdict.Proved us) h g = absurd (cc)
one_field_verdict file e FieldVerdict.Range (FieldVerdict.No n c d) h g = absurd (cc)
one_field_verdict file e FieldVerdict.Degree FieldVerdict.Atoms h g = absurd (omega arith)
one_field_verdict file e FieldVerdict.Degree FieldVerdict.Range h g = absurd (cc)
one_field_verdict file e FieldVerdict.Degree FieldVerdict.Degree h g = refl
one_field_verdict file e FieldVerdict.Degree (FieldVerdict.ZeroDenominator u) h g = absurd (cc)
one_field_verdict file e FieldVerdict.Degree (FieldVerdict.Proved us) h g = absurd (cc)
one_field_verdict file e FieldVerdict.Degree (FieldVerdict.No n c d) h g = absurd (cc)
one_field_verdict file e (FieldVerdict.ZeroDenominator t) FieldVerdict.Atoms h g = absurd (omega arith)
one_field_verdict file e (FieldVerdict.ZeroDenominator t) FieldVerdict.Range h g = absurd (cc)
one_field_verdict file e (FieldVerdict.ZeroDenominator t) FieldVerdict.Degree h g = absurd (cc)
one_field_verdict file e (FieldVerdict.ZeroDenominator t) (FieldVerdict.ZeroDenominator u) h g =
    ap FieldVerdict.ZeroDenominator (same_denominator t u (sym h.1 ∙ g.1))
one_field_verdict file e (FieldVerdict.ZeroDenominator t) (FieldVerdict.Proved us) h g = absurd (cc)
one_field_verdict file e (FieldVerdict.ZeroDenominator t) (FieldVerdict.No n c d) h g = absurd (cc)
one_field_verdict file e (FieldVerdict.Proved ts) FieldVerdict.Atoms h g = absurd (omega arith)
one_field_verdict file e (FieldVerdict.Proved ts) FieldVerdict.Range h g = absurd (cc)
one_field_verdict file e (FieldVerdict.Proved ts) FieldVerdict.Degree h g = absurd (cc)
one_field_verdict file e (FieldVerdict.Proved ts) (FieldVerdict.ZeroDenominator u) h g = absurd (cc)
one_field_verdict file e (FieldVerdict.Proved ts) (FieldVerdict.Proved us) h g = ap FieldVerdict.Proved (h.2 ∙ sym g.2)
one_field_verdict file e (FieldVerdict.Proved ts) (FieldVerdict.No n c d) h g = absurd (different file e n c d g h.1)
one_field_verdict file e (FieldVerdict.No m a b) FieldVerdict.Atoms h g = absurd (omega arith)
one_field_verdict file e (FieldVerdict.No m a b) FieldVerdict.Range h g = absurd (cc)
one_field_verdict file e (FieldVerdict.No m a b) FieldVerdict.Degree h g = absurd (cc)
one_field_verdict file e (FieldVerdict.No m a b) (FieldVerdict.ZeroDenominator u) h g = absurd (cc)
one_field_verdict file e (FieldVerdict.No m a b) (FieldVerdict.Proved us) h g = absurd (different file e m a b h g.1)
one_field_verdict file e (FieldVerdict.No m a b) (FieldVerdict.No n c d) h g =
    let is = one_difference (left_of file e) (right_of file e) m n a b c d h.1 g.1 in
    λ i. FieldVerdict.No (is.0 i) (is.1 i) (is.2 i)

module _ (file : File) (e : Equation) where
  abbrev atoms : List Atom
  atoms = own_table file e

  -- the fractions of both sides are over the table
  left_is : IsFractionIn atom_cmp (Contains atoms) (frac e.left)
  left_is = fraction_in_table atoms (frac e.left) (fractions_under_paths.held atoms [] e.left (held_left file e []))

  right_is : IsFractionIn atom_cmp (Contains atoms) (frac e.right)
  right_is =
      fraction_in_table atoms (frac e.right) (fractions_under_paths.held atoms [] e.right (held_right file e []))

  -- so are their numerators
  left_in : IsPolynomialIn atom_cmp (Contains atoms) (left_numerator e)
  left_in = cleared_in atom_total atom_anti (Contains atoms) (frac e.left) (frac e.right) left_is right_is

  right_in : IsPolynomialIn atom_cmp (Contains atoms) (right_numerator e)
  right_in = cleared_in atom_total atom_anti (Contains atoms) (frac e.right) (frac e.left) right_is left_is

  -- a polynomial over the table comes back from its numbers
  back : (p : over.Polynomial) → IsPolynomialIn atom_cmp (Contains atoms) p →
      poly_image nat_cmp atom_cmp (atom_at atoms) (numbered atoms p) ≡ p
  back p h =
      comes_back atom_total atom_anti nat_cmp_total nat_cmp-IsAntisymmetric (number_of atoms) (atom_at atoms)
      (Contains atoms) (comes atoms) p h

pub field_no_is_over_the_table : FieldNoIsOverTheTable
field_no_is_over_the_table file e m a b h =
    over_table (own_table file e) (left_numerator e) (right_numerator e) (left_in file e) (right_in file e) m a b h.1

-- where the verdict is No, the numerators have its coefficients at its atoms
pub field_no_differs : FieldNoDiffers
field_no_differs file e m a b h =
    let at = own_table file e in
    let p = left_numerator e in
    let q = right_numerator e in
    record {
      numerators = different file e m a b h;
      left = left_at at p q (left_in file e) (right_in file e) m a b h.1;
      right = right_at at p q (left_in file e) (right_in file e) m a b h.1;
      differ = h.1.differ;
    }

pub sides_by_numbers : SidesByNumbers
sides_by_numbers file e =
    let at = own_table file e in
    let l = held_left file e [] in
    let r = held_right file e [] in
    record {
      left = (fractions_under_paths.fractions at [] e.left e.right l r).numerator;
      right = (fractions_under_paths.fractions at [] e.right e.left r l).numerator;
      outcome = (fractions_under_paths.rules at [] e.left e.right l r).numerators;
      equal =
          λ same.
          sym (back file e (left_numerator e) (left_in file e)) ∙ ap (poly_image nat_cmp atom_cmp (atom_at at)) same
          ∙ back file e (right_numerator e) (right_in file e);
    }
