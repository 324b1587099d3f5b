-- The fraction of a term under a path, over the numbers of a table, is made node by node.
use Rattle.std.specs.Prelude.{◌≡◌, ℕ, ℤ, List, [], ◌++◌, ◌∷◌, Contains}
use Rattle.std.specs.List.{AllByRecursion as ByRecursion}
use Rattle.std.proofs.Common.{sym, ap, subst, ◌∙◌}
use Rattle.std.proofs.lemmas.List.Elements.{recursion_from_All}
use Rattle.std.specs.Cmp.{nat_cmp_total}
use Rattle.std.specs.FinMap.{nat_cmp-IsAntisymmetric}
use Rattle.std.specs.Ordering.{nat_cmp}
use Rattle.alg_terms.specs.declared.term.Atom.{Atom}
use Rattle.alg_terms.specs.declared.term.Term.{Term, more_of-Term, Var, Int, Neg', Add', Sub', Mul', Div', Pow', Hom'}
use Rattle.alg_terms.specs.Nodes.{fold_term}
use Rattle.alg_terms.proofs.Built.{fold_term-Var, fold_term-Int, fold_term-Hom}
use Rattle.alg_mono.specs.FiniteMaps.{Each}
use Rattle.alg_mono.proofs.Closure.{IsPolynomial-term}
use Rattle.alg_mono.proofs.Each.{Each-keep, Each-weaker}
use Rattle.alg_mono.specs.Numbers.{integers}
use Rattle.alg_mono.proofs.Numbers.{integer_laws}
use Rattle.alg_mono.specs.Polynomials.{poly_term}
use Rattle.alg_meaning.specs.Atoms.{Monomial, Polynomial, atom_cmp, falling, variable, atom_poly, poly_along}
use Rattle.alg_meaning.specs.Fractions.{Fraction, node_frac, frac, is_unit}
use Rattle.alg_meaning.specs.Orders.{atom_total, atom_anti}
use Rattle.alg_reify.specs.FractionsUnder.{frac_along, numbered_along, numbered_frac_along, IsHeld, FractionsUnderPaths}
use Rattle.alg_reify.specs.KeptFractions.{KeepsFractions, KeepsRules, KeepsTests}
use Rattle.alg_reify.specs.Numbered.{number_of, numbered}
use Rattle.alg_reify.specs.NumberedFractions.{IsPolynomialOf, IsFractionOf, numbered_fraction}
use Rattle.alg_reify.specs.Table.{leaves}
use Rattle.alg_reify.proofs.Along.{along-variable, along-constant}
use Rattle.alg_reify.proofs.AtomsIn.{both_parts}
use Rattle.alg_reify.proofs.FractionsAlong.{both_fractions, both_rules, both_tests, frac_is, top_along, along_fractions, along_rules, along_tests, along_leaf, along_image}
use Rattle.alg_reify.proofs.FractionsIn.{IsPolynomialIn, IsFractionIn, opposite_in, sum_in, difference_in, product_in, quotient_in, power_fraction_in}
use Rattle.alg_reify.proofs.Images.{image-term}
use Rattle.alg_reify.proofs.NumberedFractions.{numbering_keeps}

module _ (P : Atom → Type 0) where
  abbrev Of : Fraction → Type 0
  Of a = IsFractionIn atom_cmp P a

  leaf_of : (p : Polynomial) → IsPolynomialIn atom_cmp P p → Of (record { top = p; below = [] })
  leaf_of p h = record { top = h; canonical = record { rises = tt; no_none = tt }; below = tt }

  atom_of_path : (path : List ℕ) (k : ℕ) → P (record { path = path; var = k }) →
      IsPolynomialIn atom_cmp P (atom_poly (record { path = path; var = k }))
  atom_of_path path k h = record {
    polynomial = record {
      canonical = record { rises = tt; no_none = tt };
      monomials = (record { rises = tt; no_none = tt }, tt);
    };
    held = ((h, tt), tt);
  }

  constant_of : (n : ℤ) → IsPolynomialIn atom_cmp P (poly_term falling integers [] n)
  constant_of n = record {
    polynomial = IsPolynomial-term integer_laws atom_total atom_anti [] n record { rises = tt; no_none = tt };
    held = Each-keep falling integers.amounts (λ (m : Monomial). Each P m) [] n [] tt tt;
  }

  -- what holds of the atoms of all leaves holds of the atoms of the fraction
  fraction_atoms : (path : List ℕ) (t : Term) → ByRecursion P (leaves path t) → Of (frac_along path (frac t))
  unfolding fold_term
  fraction_atoms path (Var k) h =
      subst Of (sym (along_leaf path (atom_poly (variable k))))
      (leaf_of (poly_along path (atom_poly (variable k)))
      (subst (IsPolynomialIn atom_cmp P) (sym (along-variable path k)) (atom_of_path path k h.0)))
  fraction_atoms path (Int n) h =
      subst Of (sym (along_leaf path (poly_term falling integers [] n)))
      (leaf_of (poly_along path (poly_term falling integers [] n))
      (subst (IsPolynomialIn atom_cmp P) (sym (along-constant path n)) (constant_of n)))
  fraction_atoms path (Neg' _ (more_of-Term t _)) h =
      subst Of (sym (along_fractions path (frac t) (frac t) (frac_is t) (frac_is t)).opposite)
      (opposite_in atom_total atom_anti P (frac_along path (frac t)) (fraction_atoms path t h))
  fraction_atoms path (Add' _ (more_of-Term t _) _ (more_of-Term u _)) h =
      let parts = both_parts P (leaves path t) (leaves path u) h in
      subst Of (sym (along_fractions path (frac t) (frac u) (frac_is t) (frac_is u)).sum)
      (sum_in atom_total atom_anti P (frac_along path (frac t)) (frac_along path (frac u))
      (fraction_atoms path t parts.0) (fraction_atoms path u parts.1))
  fraction_atoms path (Sub' _ (more_of-Term t _) _ (more_of-Term u _)) h =
      let parts = both_parts P (leaves path t) (leaves path u) h in
      subst Of (sym (along_fractions path (frac t) (frac u) (frac_is t) (frac_is u)).difference)
      (difference_in atom_total atom_anti P (frac_along path (frac t)) (frac_along path (frac u))
      (fraction_atoms path t parts.0) (fraction_atoms path u parts.1))
  fraction_atoms path (Mul' _ (more_of-Term t _) _ (more_of-Term u _)) h =
      let parts = both_parts P (leaves path t) (leaves path u) h in
      subst Of (sym (along_fractions path (frac t) (frac u) (frac_is t) (frac_is u)).product)
      (product_in atom_total atom_anti P (frac_along path (frac t)) (frac_along path (frac u))
      (fraction_atoms path t parts.0) (fraction_atoms path u parts.1))
  fraction_atoms path (Div' _ (more_of-Term t _) _ (more_of-Term u _)) h =
      let parts = both_parts P (leaves path t) (leaves path u) h in
      let unit = is_unit (frac u).top in
      subst Of (sym ((along_fractions path (frac t) (frac u) (frac_is t) (frac_is u)).quotient unit))
      (quotient_in atom_total atom_anti P (frac_along path (frac t)) (frac_along path (frac u))
      (fraction_atoms path t parts.0) (fraction_atoms path u parts.1) unit)
  fraction_atoms path (Pow' _ (more_of-Term t _) n) h =
      subst Of (sym ((along_fractions path (frac t) (frac t) (frac_is t) (frac_is t)).power n))
      (power_fraction_in atom_total atom_anti P (frac_along path (frac t)) n (fraction_atoms path t h))
  fraction_atoms path (Hom' f _ (more_of-Term t _)) h =
      subst Of (sym (along_image path f (frac t))) (fraction_atoms (path ++ f ∷ []) t h)

module _ (atoms : List Atom) (path : List ℕ) where
  -- where the table holds the atoms of a term
  held : (t : Term) → IsHeld atoms path t → IsFractionOf atoms (frac_along path (frac t))
  held t h =
      let P = Contains atoms in
      let of = fraction_atoms P path t (recursion_from_All P (leaves path t) h) in
      let over : (p : Polynomial) → IsPolynomialIn atom_cmp P p → IsPolynomialOf atoms p
      = λ p g. record { polynomial = g.polynomial; held = g.held } in
      record {
        top = over (frac_along path (frac t)).top of.top;
        canonical = of.canonical;
        below = Each-weaker over (frac_along path (frac t)).below of.below;
      }

  -- the path and then the numbering
  module _ (t u : Term) (h : IsHeld atoms path t) (g : IsHeld atoms path u) where
    made_fractions : KeepsFractions atom_cmp nat_cmp (numbered_along atoms path) (numbered_frac_along atoms path)
        (frac t) (frac u)
    made_fractions =
        both_fractions atom_cmp atom_cmp nat_cmp (poly_along path) (numbered atoms) (frac_along path)
        (numbered_fraction atoms) (frac t) (frac u) (along_fractions path (frac t) (frac u) (frac_is t) (frac_is u))
        (numbering_keeps.fractions atoms (frac_along path (frac t)) (frac_along path (frac u)) (held t h) (held u g))

    made_rules : KeepsRules atom_cmp nat_cmp (numbered_along atoms path) (numbered_frac_along atoms path)
        (frac t) (frac u)
    made_rules =
        both_rules atom_cmp atom_cmp nat_cmp (poly_along path) (numbered atoms) (frac_along path)
        (numbered_fraction atoms) (frac t) (frac u) (along_rules path (frac t) (frac u) (frac_is t) (frac_is u))
        (numbering_keeps.rules atoms (frac_along path (frac t)) (frac_along path (frac u)) (held t h) (held u g))

  made_tests : (t : Term) → IsHeld atoms path t →
      KeepsTests atom_cmp nat_cmp (numbered_along atoms path) (numbered_frac_along atoms path) (frac t).top
  made_tests t h =
      both_tests atom_cmp atom_cmp nat_cmp (poly_along path) (numbered atoms) (frac_along path)
      (numbered_fraction atoms) (frac t).top (along_tests path (frac t) (frac_is t))
      (numbering_keeps.tests atoms (poly_along path (frac t).top)
      (subst (IsPolynomialOf atoms) (top_along path (frac t)) (held t h).top))

  -- a variable and a literal
  leaf_made : (p : Polynomial) →
      numbered_frac_along atoms path (record { top = p; below = [] })
      ≡ record { top = numbered_along atoms path p; below = [] }
  leaf_made p = ap (numbered_fraction atoms) (along_leaf path p)

pub fractions_under_paths : FractionsUnderPaths
fractions_under_paths = record {
  held = held;
  variable =
      λ atoms path k. ap (numbered_frac_along atoms path) (fold_term-Var node_frac k)
      ∙ leaf_made atoms path (atom_poly (variable k))
      ∙ (λ i. record { top = numbered atoms (along-variable path k i); below = [] });
  literal =
      λ atoms path n. ap (numbered_frac_along atoms path) (fold_term-Int node_frac n)
      ∙ leaf_made atoms path (poly_term falling integers [] n)
      ∙ (λ i. record { top = numbered atoms (along-constant path n i); below = [] })
      ∙ (λ i. record {
        top = image-term atom_total atom_anti nat_cmp_total nat_cmp-IsAntisymmetric (number_of atoms) [] n i;
        below = [];
      });
  image = λ path f t. ap (frac_along path) (fold_term-Hom node_frac f t) ∙ along_image path f (frac t);
  fractions = made_fractions;
  rules = made_rules;
  tests = made_tests;
}
