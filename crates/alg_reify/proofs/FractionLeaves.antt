-- The fractions of literals and variables.
use Rattle.std.specs.Prelude.{◌≡◌, ℕ, ℤ, Bool, List, []}
use Rattle.std.proofs.Common.{refl, sym, ap, ◌∙◌}
use Rattle.alg_terms.specs.declared.term.Atom.{Atom}
use Rattle.alg_terms.specs.declared.term.Term.{Term}
use Rattle.alg_terms.specs.declared.term.Term.TheVariants.{Var, Int}
use Rattle.alg_terms.proofs.Views.{Leaf}
use Rattle.alg_mono.specs.NumberedPolynomials.{atom_of, term_of}
use Rattle.alg_meaning.specs.Conditions.{denominators}
use Rattle.alg_meaning.specs.FractionOutcome.{frac_outcome}
use Rattle.alg_meaning.proofs.Built.{denominators_leaf, frac_outcome_leaf}
use Rattle.alg_reify.specs.FractionsUnder.{made_fraction}
use Rattle.alg_reify.specs.Numbered.{number_of}
use Rattle.alg_reify.proofs.FractionsUnder.{fractions_under_paths}
use Rattle.alg_reify.specs.Added.{add_conditions}
use Rattle.alg_meaning.specs.FractionsOver.{FractionOver}
use Rattle.alg_reify.specs.MakingFractions.{IsMade}

module _ {F : Type 0} (fraction : F → FractionOver ℕ) (char0 : Bool) (atoms : List Atom) (path : List ℕ)
    (seen : List Term) (t : Term) (f : F) where
  pub literal_made : (n : ℤ) → t ≡ Int n → fraction f ≡ record { top = term_of [] n; below = [] } →
      IsMade fraction char0 atoms path path seen seen t f
  literal_made n is whole = record {
    value = whole ∙ sym (fractions_under_paths.literal atoms path n) ∙ ap (made_fraction atoms path) (sym is);
    fine = ap frac_outcome is ∙ frac_outcome_leaf (Leaf.Literal n);
    back = refl;
    conditions = sym (ap (add_conditions char0 seen) (ap denominators is ∙ denominators_leaf (Leaf.Literal n)));
  }

  -- an atom under the path, as the code has the path
  pub variable_made : (k : ℕ) (same : List ℕ) → t ≡ Var k → same ≡ path → (number : ℕ) →
      number ≡ number_of atoms (record { path = same; var = k }) →
      fraction f ≡ record { top = atom_of number; below = [] } →
      IsMade fraction char0 atoms path path seen seen t f
  variable_made k same is e number numbered whole = record {
    value = whole ∙ (λ i. record { top = atom_of (numbered i); below = [] })
        ∙ (λ i. record { top = atom_of (number_of atoms (record { path = e i; var = k })); below = [] })
        ∙ sym (fractions_under_paths.variable atoms path k) ∙ ap (made_fraction atoms path) (sym is);
    fine = ap frac_outcome is ∙ frac_outcome_leaf (Leaf.Variable k);
    back = refl;
    conditions = sym (ap (add_conditions char0 seen) (ap denominators is ∙ denominators_leaf (Leaf.Variable k)));
  }
