-- Numbering the atoms of a table keeps fractions, the rules that they break, and the tests on numerators.
use Rattle.std.specs.Prelude.{◌≡◌, List, Contains}
use Rattle.std.specs.Cmp.{nat_cmp_total}
use Rattle.std.specs.FinMap.{nat_cmp-IsAntisymmetric}
use Rattle.alg_terms.specs.declared.term.Atom.{Atom}
use Rattle.alg_mono.proofs.Each.{Each-weaker}
use Rattle.alg_meaning.specs.Atoms.{Polynomial, atom_cmp}
use Rattle.alg_meaning.specs.Fractions.{Fraction}
use Rattle.alg_meaning.specs.Orders.{atom_total, atom_anti}
use Rattle.alg_reify.specs.Numbered.{number_of, atom_at}
use Rattle.alg_reify.specs.NumberedFractions.{IsPolynomialOf, IsFractionOf, NumberingKeeps}
use Rattle.alg_reify.proofs.FractionsIn.{IsPolynomialIn, IsFractionIn}
use Rattle.alg_reify.proofs.KeptFractions.{keeps_fractions, keeps_rules, keeps_tests}
use Rattle.alg_reify.proofs.Numbering.{contained_numbered}

module _ (atoms : List Atom) where
  -- a polynomial, and a fraction, over atoms of the table
  pub in_table : (p : Polynomial) → IsPolynomialOf atoms p → IsPolynomialIn atom_cmp (Contains atoms) p
  in_table p h = record { polynomial = h.polynomial; held = h.held }

  pub fraction_in_table : (a : Fraction) → IsFractionOf atoms a → IsFractionIn atom_cmp (Contains atoms) a
  fraction_in_table a h =
      record { top = in_table a.top h.top; canonical = h.canonical; below = Each-weaker in_table a.below h.below }

  -- an atom of the table comes back from its number
  pub comes : (a : Atom) → Contains atoms a → atom_at atoms (number_of atoms a) ≡ a
  comes a h = (contained_numbered atoms a h).1

pub numbering_keeps : NumberingKeeps
numbering_keeps = record {
  fractions =
      λ atoms a b h g. keeps_fractions atom_total atom_anti nat_cmp_total nat_cmp-IsAntisymmetric (number_of atoms)
      (atom_at atoms) (Contains atoms) (comes atoms) a b (fraction_in_table atoms a h) (fraction_in_table atoms b g);
  rules =
      λ atoms a b h g. keeps_rules atom_total atom_anti nat_cmp_total nat_cmp-IsAntisymmetric (number_of atoms)
      (atom_at atoms) (Contains atoms) (comes atoms) a b (fraction_in_table atoms a h) (fraction_in_table atoms b g);
  tests =
      λ atoms p h. keeps_tests atom_total atom_anti nat_cmp_total nat_cmp-IsAntisymmetric (number_of atoms)
      (atom_at atoms) (Contains atoms) (comes atoms) p (in_table atoms p h);
}
