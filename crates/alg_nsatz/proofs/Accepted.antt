-- A goal whose verdict by nsatz is Proved is reported proved.
use Rattle.std.specs.Prelude.{◌<◌, ◌≤◌, ◌^◌, ℕ, ℤ, List, length}
use Rattle.std.proofs.Common.{refl, sym, subst, arith, inl}
use Rattle.alg_terms.specs.declared.file.File.{File}
use Rattle.alg_terms.specs.declared.goals.Equation.{Equation}
use Rattle.alg_terms.specs.declared.goals.Method.{Method}
use Rattle.alg_terms.specs.declared.goals.Method.TheVariants.{ByRing, ByField, ByNsatz}
use Rattle.alg_terms.specs.declared.goals.Use.{Use}
use Rattle.alg_terms.specs.GoalRules.{IsGoal, IsNsatz, MayBeBy}
use Rattle.alg_terms.specs.Members.{goal_at, no_goal}
use Rattle.alg_lines.specs.Accepting.{Acceptance, good, Accepting}
use Rattle.alg_lines.specs.declared.answer.Answer.TheVariants.{Certified}
use Rattle.alg_lines.specs.declared.answer.GoalCheck.TheVariants.{OkProved}
use Rattle.alg_lines.specs.declared.cert.Cert.{Cert}
use Rattle.alg_reify.specs.Preparing.{is_equation, prepared_goal, prepared_hyps, used_difference}
use Rattle.alg_reify.specs.Table.{table}
use Rattle.alg_reify.proofs.UseTurns.{kept_length}
use Rattle.alg_groebner.specs.Laws.{CertificatesAreGood, PowersAreSought}
use Rattle.alg_check.specs.Reports.{IsReportBy, tried}
use Rattle.alg_nsatz.specs.Laws.{ProvedIsAccepted}
use Rattle.alg_nsatz.specs.Verdict.{NsatzVerdict, IsVerdictBy, IsVerdictOf}
use Rattle.alg_nsatz.proofs.Right.{certified}

module _ (are_good : CertificatesAreGood) (are_sought : PowersAreSought) (file : File) (e : Equation) (numbers : List ℤ)
    (cert : Cert) where
  -- the power of a good certificate is at least 1
  power_low : (uses : List Use) → Accepting (prepared_hyps file e uses) (prepared_goal file e uses) cert Acceptance.Good →
      1 ≤ cert.power
  power_low uses (good all begins leads) = begins.0.0

  accepted : (uses : List Use) (power limit : ℕ) → IsNsatz file e uses power limit →
      IsVerdictOf file e uses power limit (NsatzVerdict.Proved numbers cert) →
      IsReportBy file e (ByNsatz uses power limit) (Certified numbers cert) OkProved
  accepted uses power limit is proved =
      let hyps = prepared_hyps file e uses in
      let goal = prepared_goal file e uses in
      let kept = kept_length (is_equation file) (used_difference file (table file e uses)) uses in
      let few : length hyps < 2 ^ 31 = omega (arith, kept, is.few_uses) in
      let most : cert.power ≤ power =
      subst (λ (c : Cert). c.power ≤ power) (sym proved.certificate)
      (are_sought.proved hyps goal power limit few (omega (arith, is.power_high)) (omega (arith, is.limit_high)) proved.last
      proved.least proved.ends.1) in
      let is_good = certified are_good file e numbers cert uses power limit is proved in
      tried (power_low uses is_good, most) proved.ends.0 (Acceptance.Good, is_good, inl (proved.constants, refl))

  accepted_by : (method : Method) → MayBeBy file e method →
      IsVerdictBy file e method (NsatzVerdict.Proved numbers cert) →
      IsReportBy file e method (Certified numbers cert) OkProved
  accepted_by ByRing is proved = absurd proved
  accepted_by ByField is proved = absurd proved
  accepted_by (ByNsatz uses power limit) is proved = accepted uses power limit is proved

pub proved_is_accepted : CertificatesAreGood → PowersAreSought → ProvedIsAccepted
proved_is_accepted are_good are_sought file i valid there numbers cert verdict =
    let goal = goal_at file i in
    let is : IsGoal file goal = valid.goals i no_goal there in
    accepted_by are_good are_sought file goal.equation numbers cert goal.method is.method verdict
