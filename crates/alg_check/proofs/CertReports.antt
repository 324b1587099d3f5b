-- The report on a certificate, from what was prepared and tried.
use Rattle.std.specs.Prelude.{◌≡◌, ◌+◌, ◌^◌, ◌<◌, ℕ, ℤ, Bool, List, length}
use Rattle.std.proofs.Common.{ap, subst, arith}
use Rattle.alg_terms.specs.declared.file.File.{File}
use Rattle.alg_terms.specs.declared.goals.Equation.{Equation}
use Rattle.alg_terms.specs.declared.goals.Use.{Use}
use Rattle.alg_terms.specs.Members.{sort_at}
use Rattle.alg_mono.specs.NumberedPolynomials.{Polynomial}
use Rattle.alg_lines.specs.declared.answer.GoalCheck.{GoalCheck}
use Rattle.alg_lines.specs.declared.cert.Cert.{Cert}
use Rattle.alg_lines.specs.Constants.{constants}
use Rattle.alg_reify.specs.Preparing.{is_equation, prepared_hyps, used_difference}
use Rattle.alg_reify.specs.Table.{table}
use Rattle.alg_reify.proofs.UseTurns.{kept_length}
use Rattle.alg_check.specs.declared.preparing.Prepared.{Prepared}
use Rattle.alg_check.specs.Preparing.{IsPrepared}
use Rattle.alg_check.specs.Reports.{HasConstants, HasGoalPower, IsCertReport, Judged}

module _ (file : File) (e : Equation) (uses : List Use) (p : Prepared) (is : IsPrepared file e uses p) where
  -- as few hypotheses as uses
  pub few_hyps : (n m : ℕ) → length uses + n + m < 2 ^ 31 → length p.hyps.items + n + m < 2 ^ 31
  few_hyps n m few =
      let kept = kept_length (is_equation file) (used_difference file (table file e uses)) uses in
      omega (arith, ap (λ (ps : List Polynomial). length ps) is.hyps, kept, few)

  module _ (power : ℕ) (numbers : List ℤ) (cert : Cert) where
    -- the certificate was tried on them
    pub cert_tried : HasGoalPower file e uses power numbers cert → (char0 : Bool) →
        char0 ≡ (sort_at file e.sort).char0 → (r : GoalCheck) →
        Judged p.hyps.items p.goal cert (numbers ≡ constants cert char0) r →
        IsCertReport file e uses power numbers cert r
    cert_tried within char0 declared r judged =
        let own = subst (λ (b : Bool). Judged p.hyps.items p.goal cert (numbers ≡ constants cert b) r) declared
        judged in
        let right = HasConstants file e uses power numbers cert in
        IsCertReport.tried within is.fine
        (subst (λ (g : Polynomial). Judged (prepared_hyps file e uses) g cert right r) is.goal
        (subst (λ (hyps : List Polynomial). Judged hyps p.goal cert right r) is.hyps own))
