-- The difference of the sides of an equation, made of both sides.
use Rattle.std.specs.Prelude.{◌≡◌, ℕ, List, All, Contains, IfOk, IfErr, OnOk}
use Rattle.std.specs.declared.result.Result.{Result}
use Rattle.std.specs.declared.result.Result.TheVariants.{Ok, Err}
use Rattle.std.proofs.Common.{sym, subst, ◌∙◌}
use Rattle.alg_terms.specs.declared.term.Atom.{Atom}
use Rattle.alg_terms.specs.declared.goals.Equation.{Equation}
use Rattle.alg_mono.specs.declared.ends.Overrun.{Overrun}
use Rattle.alg_mono.specs.NumberedPolynomials.{Polynomial, difference_of}
use Rattle.alg_mono.specs.Outcomes.{Outcome, first_breach, sum_outcome}
use Rattle.alg_mono.specs.Refusals.{RefusesWith}
use Rattle.alg_meaning.specs.PolynomialOf.{poly_of_under}
use Rattle.alg_meaning.specs.TermOutcome.{term_outcome}
use Rattle.alg_reify.specs.Numbered.{numbered}
use Rattle.alg_reify.specs.Preparing.{difference, difference_outcome}
use Rattle.alg_reify.specs.Table.{equation_leaves}
use Rattle.alg_reify.proofs.Made.{made}
use Rattle.alg_reify.proofs.Prepared.{made_difference, same_outcome}

module _ (atoms : List Atom) (path : List ℕ) (e : Equation) (held : All (Contains atoms) (equation_leaves path e))
    (p q : Polynomial) (r : Result Polynomial Overrun) (left : p ≡ made atoms path e.left)
    (right : q ≡ made atoms path e.right) where
  is_difference : difference_of p q ≡ numbered atoms (difference path e)
  is_difference = (λ i. difference_of (left i) (right i)) ∙ made_difference atoms path e held

  pub both_made : IfOk r (λ s. s ≡ difference_of p q) → IfOk r (λ s. s ≡ numbered atoms (difference path e))
  both_made h =
      subst (λ (x : Polynomial). IfOk r (λ s. s ≡ x)) is_difference h

  module _ (left_fine : term_outcome e.left ≡ Outcome.Fine) (right_fine : term_outcome e.right ≡ Outcome.Fine) where
    is_outcome : sum_outcome p q ≡ difference_outcome path e
    is_outcome =
        (λ i. sum_outcome (left i) (right i)) ∙ same_outcome atoms path e held
        ∙ (λ i. first_breach (sym left_fine i) (first_breach (sym right_fine i)
        (sum_outcome (poly_of_under path e.left) (poly_of_under path e.right))))

    pub difference_fine : IfOk r (λ s. sum_outcome p q ≡ Outcome.Fine) →
        OnOk r (difference_outcome path e ≡ Outcome.Fine)
    difference_fine h = fine r h
      where
        fine : (r : Result Polynomial Overrun) → IfOk r (λ s. sum_outcome p q ≡ Outcome.Fine) →
            OnOk r (difference_outcome path e ≡ Outcome.Fine)
        fine (Ok s) h = sym is_outcome ∙ h
        fine (Err e) h = tt

    pub difference_told : IfErr r (λ d. RefusesWith d (sum_outcome p q)) → IfErr r (λ d. RefusesWith d (difference_outcome path e))
    difference_told h = subst (λ (o : Outcome). IfErr r (λ d. RefusesWith d o)) is_outcome h
