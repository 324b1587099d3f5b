-- What an outcome says of the bound on the norm and of the degree.
use Rattle.std.specs.Prelude.{◌≡◌, ℕ, true, false, cond, nat_lt}
use Rattle.std.proofs.Common.{refl, ap, subst, ◌∙◌}
use Rattle.std.proofs.lemmas.Bool.{lt-ltb, le-ltb, ltb-true, ltb-false}
use Rattle.alg_mono.specs.Monomials.{MAX_DEGREE}
use Rattle.alg_mono.specs.Polynomials.{MAX}
use Rattle.alg_mono.specs.Outcomes.{Outcome, outcome, Says}

pub outcome_says : (bound degree : ℕ) → Says bound degree (outcome bound degree)
outcome_says n d =
    elim (nat_lt MAX n) as (λ b. nat_lt MAX n ≡ b →
    Says n d (cond b Outcome.Range (cond (nat_lt MAX_DEGREE d) Outcome.Degree Outcome.Fine))) [
      | true ↦ λ e. ltb-true MAX n e
      | false ↦ λ e. elim (nat_lt MAX_DEGREE d) as (λ b. nat_lt MAX_DEGREE d ≡ b →
          Says n d (cond b Outcome.Degree Outcome.Fine)) [
            | true ↦ λ f. (ltb-false MAX n e, ltb-true MAX_DEGREE d f)
            | false ↦ λ f. (ltb-false MAX n e, ltb-false MAX_DEGREE d f)
          ] refl
    ] refl

-- the only outcome that says so
pub said : (bound degree : ℕ) (o : Outcome) → Says bound degree o → outcome bound degree ≡ o
said n d Outcome.Range h =
    ap (λ b. cond b Outcome.Range (cond (nat_lt MAX_DEGREE d) Outcome.Degree Outcome.Fine)) (lt-ltb MAX n h)
said n d Outcome.Degree h =
    ap (λ b. cond b Outcome.Range (cond (nat_lt MAX_DEGREE d) Outcome.Degree Outcome.Fine)) (le-ltb MAX n h.0)
    ∙ ap (λ b. cond b Outcome.Degree Outcome.Fine) (lt-ltb MAX_DEGREE d h.1)
said n d Outcome.Fine h =
    ap (λ b. cond b Outcome.Range (cond (nat_lt MAX_DEGREE d) Outcome.Degree Outcome.Fine)) (le-ltb MAX n h.0)
    ∙ ap (λ b. cond b Outcome.Degree Outcome.Fine) (le-ltb MAX_DEGREE d h.1)

pub says_at : (bound degree : ℕ) (o : Outcome) → outcome bound degree ≡ o → Says bound degree o
says_at n d o e = subst (Says n d) e (outcome_says n d)
