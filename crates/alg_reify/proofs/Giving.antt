-- What is made where no rule is broken.
use Rattle.std.specs.Prelude.{◌≡◌, IfOk, IfErr}
use Rattle.std.proofs.Common.{sym, ap, subst, ◌∙◌}
use Rattle.std.specs.declared.result.Result.{Result}
use Rattle.std.specs.declared.result.Result.TheVariants.{Ok, Err}
use Rattle.alg_mono.specs.declared.ends.Overrun.{Overrun}
use Rattle.alg_mono.specs.Outcomes.{Outcome, first_breach}
use Rattle.alg_mono.specs.Refusals.{RefusesWith}
use Rattle.alg_reify.specs.Making.{Gives}

pub gives : {Q X : Type 0} (value : Q → X) (x : X) (o : Outcome) (r : Result Q Overrun) → IfOk r (λ q. value q ≡ x) →
    IfOk r (λ q. o ≡ Outcome.Fine) → IfErr r (λ e. RefusesWith e o) → Gives value x o r
gives value x o (Ok q) is fine refused = (is, fine)
gives value x o (Err e) is fine refused = refused

-- after something that is fine
pub gives_after : {Q X : Type 0} (value : Q → X) (x y : X) (first own same : Outcome) (r : Result Q Overrun) →
    first ≡ Outcome.Fine → y ≡ x → same ≡ own → IfOk r (λ q. value q ≡ y) → IfOk r (λ q. same ≡ Outcome.Fine) →
    IfErr r (λ e. RefusesWith e same) → Gives value x (first_breach first own) r
gives_after value x y first own same (Ok q) before is like made fine refused =
    (made ∙ is, ap (λ o. first_breach o own) before ∙ sym like ∙ fine)
gives_after value x y first own same (Err e) before is like made fine refused =
    subst (RefusesWith e) (like ∙ sym (ap (λ o. first_breach o own) before)) refused

pub subst_both : {A B : Type 0} (P : A → B → Type 0) {a a' : A} {b b' : B} → a ≡ a' → b ≡ b' → P a b → P a' b'
subst_both P {a} {a'} {b} {b'} e f h = subst (λ y. P a' y) f (subst (λ x. P x b) e h)
