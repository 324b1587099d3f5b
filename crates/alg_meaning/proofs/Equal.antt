-- The value of a term is the value of its polynomial.
use Rattle.std.specs.Prelude.{◌≡◌, ℕ, List, []}
use Rattle.std.proofs.Common.{refl, sym, ap, subst, ◌∙◌}
use Rattle.alg_terms.specs.declared.term.Term.{Term, more_of-Term, Var, Int, Neg', Add', Sub', Mul', Div', Pow', Hom'}
use Rattle.alg_terms.specs.declared.file.File.{File}
use Rattle.alg_terms.specs.Members.{source_of}
use Rattle.alg_terms.specs.Nodes.{fold_term}
use Rattle.alg_universe.specs.declared.universe.Universe.{Ghosts}
use Rattle.alg_universe.specs.Value.{value, power as power_in, Fits, AreValues}
use Rattle.alg_mono.specs.Polynomials.{poly_neg}
use Rattle.alg_mono.proofs.Totals.{idr}
use Rattle.alg_mono.proofs.Numbers.{integer_laws}
use Rattle.alg_meaning.specs.Atoms.{Polynomial, poly_under, times, variable}
use Rattle.alg_meaning.specs.PolynomialOf.{poly_of}
use Rattle.alg_meaning.proofs.Typed.{IsTyped, HasNoDivision, typed, plain}
use Rattle.alg_meaning.specs.Laws.{EqualPolynomials}
use Rattle.alg_meaning.specs.Orders.{atom_anti, falling_anti}
use Rattle.alg_meaning.proofs.Rings.{semi}
use Rattle.alg_meaning.proofs.Evaluation.{mono_value-times, poly_value-plus, poly_value-term, poly_value-times, poly_value-power, poly_value-neg}
use Rattle.alg_meaning.proofs.Carriers.{ring_at, semi_at, int_at, opp_at, numbering_at, int_below, power_below}
use Rattle.alg_meaning.proofs.AtomValues.{value_at, monomial_value, atom_value, value_at-atom, path_value-var, poly_under_value}

module _ {E : Type 0} (u : Ghosts E) {file : File} (fits : Fits u file) {v : List E} (values : AreValues u file v) where
  abbrev at : (s : ℕ) → Polynomial → E
  at s p = (value_at u fits values s p).0

  pub same_value : (s : ℕ) (t : Term) → IsTyped file s t → HasNoDivision t → at s (poly_of t) ≡ value u file v s t
  unfolding fold_term
  same_value s (Var k) h d =
      ap (λ x. x.0) (value_at-atom u fits values s (variable k)) ∙ path_value-var u fits values s k h.0 h.1
  same_value s (Int n) h d =
      ap (λ x. x.0) (poly_value-term falling_anti integer_laws (numbering_at u s) (monomial_value u fits values s) []
      n ∙ idr (semi (ring_at u s)).product (int_at u s n))
      ∙ int_below u s n
  same_value s (Neg' p (more_of-Term t r)) h d =
      ap (λ x. x.0) (poly_value-neg (semi_at u s) (opp_at u s) (ring_at u s) (monomial_value u fits values s)
      (poly_of t)) ∙ ap (u.opp s) (same_value s t h d)
  same_value s (Add' p (more_of-Term t r) p' (more_of-Term t' r')) h d =
      ap (λ x. x.0) (poly_value-plus falling_anti integer_laws (numbering_at u s) (monomial_value u fits values s)
      (poly_of t) (poly_of t'))
      ∙ (λ i. u.add s (same_value s t h.0 d.0 i) (same_value s t' h.1 d.1 i))
  same_value s (Sub' p (more_of-Term t r) p' (more_of-Term t' r')) h d =
      ap (λ x. x.0) (poly_value-plus falling_anti integer_laws (numbering_at u s) (monomial_value u fits values s)
      (poly_of t) (poly_neg (poly_of t')))
      ∙ (λ i. u.add s (same_value s t h.0 d.0 i)
      ((ap (λ x. x.0) (poly_value-neg (semi_at u s) (opp_at u s) (ring_at u s) (monomial_value u fits values s)
      (poly_of t')) ∙ ap (u.opp s) (same_value s t' h.1 d.1)) i))
  same_value s (Mul' p (more_of-Term t r) p' (more_of-Term t' r')) h d =
      ap (λ x. x.0) (poly_value-times falling_anti integer_laws (numbering_at u s) (monomial_value u fits values s)
      times (mono_value-times (semi_at u s) (atom_value u fits values s) atom_anti) (poly_of t) (poly_of t'))
      ∙ (λ i. u.mul s (same_value s t h.0 d.0 i) (same_value s t' h.1 d.1 i))
  same_value s (Div' p t p' t') h d = absurd d
  same_value s (Pow' p (more_of-Term t r) n) h d =
      ap (λ x. x.0) (poly_value-power falling_anti integer_laws (numbering_at u s) (monomial_value u fits values s)
      times (mono_value-times (semi_at u s) (atom_value u fits values s) atom_anti) [] refl (poly_of t) n)
      ∙ power_below u s (value_at u fits values s (poly_of t)) n
      ∙ ap (λ x. power_in u s x n) (same_value s t h d)
  same_value s (Hom' f p (more_of-Term t r)) h d =
      subst (λ w. at w (poly_under f (poly_of t)) ≡ u.hom f (at (source_of file f) (poly_of t))) h.1
      (ap (λ x. x.0) (poly_under_value u fits values f h.0 (poly_of t)))
      ∙ ap (u.hom f) (same_value (source_of file f) t h.2 d)

pub equal_polynomials_lem : {E : Type 0} (u : Ghosts E) → EqualPolynomials u
equal_polynomials_lem u file fits v values s t t' h h' e =
    sym (same_value u fits values s t (typed file s t h.term h.sort) (plain t h.plain))
    ∙ ap (λ p. (value_at u fits values s p).0) e
    ∙ same_value u fits values s t' (typed file s t' h'.term h'.sort) (plain t' h'.plain)
