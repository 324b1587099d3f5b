use Rattle.std.proofs.Common.{◌≡◌, ◌/◌, length, IfOk, subst, ◌∙◌}
use Rattle.alg_mono.specs.NumberedPolynomials.{Polynomial}
use Rattle.alg_horner.proofs.Listed.{collect_halves, falls, halves_fit}
use Rattle.alg_horner.proofs.terms.+collected.Goals as goal

pub merge-requires-clause-falls_a : goal.merge-requires-clause-falls_a
merge-requires-clause-falls_a t c =
    falls c.split_at.result.0.now c.deref.result.now (c.deref.ensures.value ∙ c.in_ok-front.ensures)

pub merge-requires-clause-falls_b : goal.merge-requires-clause-falls_b
merge-requires-clause-falls_b t c =
    falls c.split_at.result.1.now c.deref-2.result.now (c.deref-2.ensures.value ∙ c.in_ok-back.ensures)

pub merge-requires-clause-fits : goal.merge-requires-clause-fits
merge-requires-clause-fits t c =
    halves_fit (length c.args.terms.now / 2) c.args.terms.now _ _ _ _ c.split_at.ensures.front c.split_at.ensures.back
    (c.deref.ensures.value ∙ c.in_ok-front.ensures) (c.deref-2.ensures.value ∙ c.in_ok-back.ensures) c.requires

-- the halves add up to the whole
pub returns : goal.returns
returns t c =
    subst (λ (p : Polynomial). IfOk c.merge.result (λ v. v.items ≡ p))
    (collect_halves (length c.args.terms.now / 2) c.args.terms.now _ _ _ _ c.split_at.ensures.front
    c.split_at.ensures.back
    (c.deref.ensures.value ∙ c.in_ok-front.ensures) (c.deref-2.ensures.value ∙ c.in_ok-back.ensures))
    c.merge.ensures
