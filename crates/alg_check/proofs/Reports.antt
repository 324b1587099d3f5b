-- A goal with an answer has one report.
use Rattle.std.specs.Prelude.{◌≡◌, ℕ, ℤ, List, Some, None}
use Rattle.std.proofs.Common.{refl, sym, ap, subst, ◌∙◌, arith, inl, inr}
use Rattle.alg_terms.specs.declared.file.File.{File}
use Rattle.alg_terms.specs.declared.goals.Equation.{Equation}
use Rattle.alg_terms.specs.declared.goals.Method.{Method}
use Rattle.alg_terms.specs.declared.goals.Method.TheVariants.{ByRing, ByField, ByNsatz}
use Rattle.alg_terms.specs.declared.goals.Use.{Use}
use Rattle.alg_mono.specs.NumberedPolynomials.{Polynomial}
use Rattle.alg_mono.specs.Outcomes.{Outcome}
use Rattle.alg_lines.specs.declared.answer.Answer.{Answer}
use Rattle.alg_lines.specs.declared.answer.GoalCheck.{GoalCheck}
use Rattle.alg_lines.specs.declared.cert.Cert.{Cert}
use Rattle.alg_lines.specs.Accepting.{Acceptance}
use Rattle.alg_reify.specs.declared.stop.Stop.{Stop}
use Rattle.alg_reify.specs.Answers.{IsRingAnswer, IsFieldAnswer}
use Rattle.alg_reify.specs.Preparing.{PreparesTo, StopsPreparing, prepared_goal, prepared_hyps}
use Rattle.alg_check.specs.Laws.{OneReport}
use Rattle.alg_check.specs.Reports.{Compares, HasConstants, IsCertReport, IsNsatzReport, IsReportBy, Judged, Judges, StopReport}
use Rattle.alg_check.proofs.Once.{one_acceptance}

-- ---- by ring and by field
-- an answer that is the goal's is a proof or none
compared_right : (right : Type 0) (answer : Answer) (r s : GoalCheck) → Compares right answer r →
    Compares right answer s → r ≡ s
compared_right right answer GoalCheck.OkProved GoalCheck.OkProved h k = refl
compared_right right answer GoalCheck.OkProved GoalCheck.OkOther h k = absurd (k.1 h.1)
compared_right right answer GoalCheck.OkProved (GoalCheck.Bad at) h k = absurd (k.0 h.0)
compared_right right answer GoalCheck.OkProved GoalCheck.Unchecked h k = absurd k
compared_right right answer GoalCheck.OkProved GoalCheck.Atoms h k = absurd k
compared_right right answer GoalCheck.OkProved GoalCheck.Range h k = absurd k
compared_right right answer GoalCheck.OkProved GoalCheck.Degree h k = absurd k
compared_right right answer GoalCheck.OkOther GoalCheck.OkProved h k = absurd (h.1 k.1)
compared_right right answer GoalCheck.OkOther GoalCheck.OkOther h k = refl
compared_right right answer GoalCheck.OkOther (GoalCheck.Bad at) h k = absurd (k.0 h.0)
compared_right right answer GoalCheck.OkOther GoalCheck.Unchecked h k = absurd k
compared_right right answer GoalCheck.OkOther GoalCheck.Atoms h k = absurd k
compared_right right answer GoalCheck.OkOther GoalCheck.Range h k = absurd k
compared_right right answer GoalCheck.OkOther GoalCheck.Degree h k = absurd k
compared_right right answer (GoalCheck.Bad at) GoalCheck.OkProved h k = absurd (h.0 k.0)
compared_right right answer (GoalCheck.Bad at) GoalCheck.OkOther h k = absurd (h.0 k.0)
compared_right right answer (GoalCheck.Bad at) (GoalCheck.Bad by) h k = ap (λ n. GoalCheck.Bad n) (h.1 ∙ sym k.1)
compared_right right answer (GoalCheck.Bad at) GoalCheck.Unchecked h k = absurd k
compared_right right answer (GoalCheck.Bad at) GoalCheck.Atoms h k = absurd k
compared_right right answer (GoalCheck.Bad at) GoalCheck.Range h k = absurd k
compared_right right answer (GoalCheck.Bad at) GoalCheck.Degree h k = absurd k
compared_right right answer GoalCheck.Unchecked s h k = absurd h
compared_right right answer GoalCheck.Atoms s h k = absurd h
compared_right right answer GoalCheck.Range s h k = absurd h
compared_right right answer GoalCheck.Degree s h k = absurd h

-- ---- by nsatz
judged_once : (right : Type 0) (a : Acceptance) (r s : GoalCheck) → Judges right a r → Judges right a s → r ≡ s
judged_once right Acceptance.Good r s (inl (h, p)) (inl (k, q)) = p ∙ sym q
judged_once right Acceptance.Good r s (inl (h, p)) (inr (k, q)) = absurd (k h)
judged_once right Acceptance.Good r s (inr (h, p)) (inl (k, q)) = absurd (h k)
judged_once right Acceptance.Good r s (inr (h, p)) (inr (k, q)) = p ∙ sym q
judged_once right (Acceptance.Bad at) r s h k = h ∙ sym k
judged_once right Acceptance.Range r s h k = h ∙ sym k
judged_once right Acceptance.Degree r s h k = h ∙ sym k

one_judged : (hyps : List Polynomial) (goal : Polynomial) (cert : Cert) (right : Type 0) (r s : GoalCheck) →
    Judged hyps goal cert right r → Judged hyps goal cert right s → r ≡ s
one_judged hyps goal cert right r s (a, h, p) (b, k, q) =
    judged_once right b r s
    (subst (λ (x : Acceptance). Judges right x r) (one_acceptance hyps goal cert a b h k) p) q

module _ (file : File) (e : Equation) (uses : List Use) where
  -- preparing stops by one thing alone
  stop_once : (one other : Stop) (r s : GoalCheck) → StopsPreparing file e uses one → StopReport one r →
      StopsPreparing file e uses other → StopReport other s → r ≡ s
  stop_once Stop.NoMemory other r s h p k q = absurd p
  stop_once Stop.Atoms Stop.Atoms r s h p k q = p ∙ sym q
  stop_once Stop.Atoms Stop.Range r s h p k q = absurd (omega (arith, h, k.0))
  stop_once Stop.Atoms Stop.Degree r s h p k q = absurd (omega (arith, h, k.0))
  stop_once Stop.Atoms Stop.NoMemory r s h p k q = absurd q
  stop_once Stop.Range Stop.Atoms r s h p k q = absurd (omega (arith, k, h.0))
  stop_once Stop.Range Stop.Range r s h p k q = p ∙ sym q
  stop_once Stop.Range Stop.Degree r s h p k q = absurd (let a = h.1 in let b = k.1 in cc)
  stop_once Stop.Range Stop.NoMemory r s h p k q = absurd q
  stop_once Stop.Degree Stop.Atoms r s h p k q = absurd (omega (arith, k, h.0))
  stop_once Stop.Degree Stop.Range r s h p k q = absurd (let a = h.1 in let b = k.1 in cc)
  stop_once Stop.Degree Stop.Degree r s h p k q = p ∙ sym q
  stop_once Stop.Degree Stop.NoMemory r s h p k q = absurd q

  -- or does not
  no_stop : (stop : Stop) (r : GoalCheck) → StopsPreparing file e uses stop → StopReport stop r →
      PreparesTo file e uses Outcome.Fine → ⊥
  no_stop Stop.Atoms r h p fine = absurd (omega (arith, h, fine.0))
  no_stop Stop.Range r h p fine = let a = h.1 in let b = fine.1 in absurd (cc)
  no_stop Stop.Degree r h p fine = let a = h.1 in let b = fine.1 in absurd (cc)
  no_stop Stop.NoMemory r h p fine = absurd p

  module _ (power : ℕ) (numbers : List ℤ) (cert : Cert) where
    cert_once : (r s : GoalCheck) → IsCertReport file e uses power numbers cert r →
        IsCertReport file e uses power numbers cert s → r ≡ s
    cert_once r s (IsCertReport.bad_power h p) (IsCertReport.bad_power k q) = p ∙ sym q
    cert_once r s (IsCertReport.bad_power h p) (IsCertReport.stopped other g k q) = absurd (h g)
    cert_once r s (IsCertReport.bad_power h p) (IsCertReport.tried g k q) = absurd (h g)
    cert_once r s (IsCertReport.stopped one g h p) (IsCertReport.bad_power k q) = absurd (k g)
    cert_once r s (IsCertReport.stopped one g h p) (IsCertReport.stopped other f k q) = stop_once one other r s h p k q
    cert_once r s (IsCertReport.stopped one g h p) (IsCertReport.tried f k q) = absurd (no_stop one r h p k)
    cert_once r s (IsCertReport.tried g h p) (IsCertReport.bad_power k q) = absurd (k g)
    cert_once r s (IsCertReport.tried g h p) (IsCertReport.stopped other f k q) = absurd (no_stop other s k q h)
    cert_once r s (IsCertReport.tried g h p) (IsCertReport.tried f k q) =
        one_judged (prepared_hyps file e uses) (prepared_goal file e uses) cert
        (HasConstants file e uses power numbers cert) r s p q

by_nsatz : (file : File) (e : Equation) (uses : List Use) (power : ℕ) (answer : Answer) (r s : GoalCheck) →
    IsNsatzReport file e uses power answer r → IsNsatzReport file e uses power answer s → r ≡ s
by_nsatz file e uses power (Answer.Certified numbers cert) r s h k =
    cert_once file e uses power numbers cert r s h k
by_nsatz file e uses power (Answer.Proved conditions) r s h k = h ∙ sym k
by_nsatz file e uses power (Answer.No at a b) r s h k = h ∙ sym k
by_nsatz file e uses power (Answer.ZeroDenominator t) r s h k = h ∙ sym k
by_nsatz file e uses power (Answer.NoneUpTo n) r s h k = h ∙ sym k
by_nsatz file e uses power (Answer.GaveUp n) r s h k = h ∙ sym k
by_nsatz file e uses power Answer.Atoms r s h k = h ∙ sym k
by_nsatz file e uses power Answer.Range r s h k = h ∙ sym k
by_nsatz file e uses power Answer.Degree r s h k = h ∙ sym k

one_by : (file : File) (e : Equation) (method : Method) (answer : Answer) (r s : GoalCheck) →
    IsReportBy file e method answer r → IsReportBy file e method answer s → r ≡ s
one_by file e ByRing answer r s h k = compared_right (IsRingAnswer file e answer) answer r s h k
one_by file e ByField answer r s h k = compared_right (IsFieldAnswer file e answer) answer r s h k
one_by file e (ByNsatz uses power limit) answer r s h k = by_nsatz file e uses power answer r s h k

pub one_report : OneReport
one_report file goal None r s h k = h ∙ sym k
one_report file goal (Some answer) r s h k = one_by file goal.equation goal.method answer r s h k
