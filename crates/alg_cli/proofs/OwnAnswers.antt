-- The answers that are given to goals are accepted.
use Rattle.std.specs.Prelude.{ℕ, ℤ, List}
use Rattle.std.proofs.Common.{refl, sym, subst}
use Rattle.alg_terms.specs.declared.file.File.{File}
use Rattle.alg_terms.specs.declared.goals.Equation.{Equation}
use Rattle.alg_terms.specs.declared.goals.Method.{Method}
use Rattle.alg_terms.specs.declared.goals.Method.TheVariants.{ByRing, ByField, ByNsatz}
use Rattle.alg_terms.specs.declared.goals.Use.{Use}
use Rattle.alg_terms.specs.Members.{goal_at}
use Rattle.alg_lines.specs.declared.answer.Answer.{Answer}
use Rattle.alg_lines.specs.declared.cert.Cert.{Cert}
use Rattle.alg_reify.specs.Answers.{field_answer, ring_answer}
use Rattle.alg_reify.specs.FieldVerdict.{FieldVerdict, IsFieldVerdict}
use Rattle.alg_reify.specs.RingVerdict.{RingVerdict, IsRingVerdict}
use Rattle.alg_check.specs.Reports.{IsReportBy}
use Rattle.alg_nsatz.specs.Laws.{ProvedIsAccepted}
use Rattle.alg_nsatz.specs.Verdict.{NsatzVerdict, IsVerdictBy, IsVerdictOf}
use Rattle.alg_prover.specs.Answers.{nsatz_answer_of, IsAnswerBy}
use Rattle.alg_cli.specs.OwnAnswers.{own_report, AnswersAreAccepted}

module _ (file : File) (e : Equation) where
  abbrev IsAccepted : Method → Answer → Type 0
  IsAccepted method answer = IsReportBy file e method answer (own_report method answer)

  by_ring : (v : RingVerdict) → IsRingVerdict file e v → IsAccepted ByRing (ring_answer v)
  by_ring RingVerdict.Atoms h = ((RingVerdict.Atoms, h, refl), λ x. x)
  by_ring RingVerdict.Range h = ((RingVerdict.Range, h, refl), λ x. x)
  by_ring RingVerdict.Degree h = ((RingVerdict.Degree, h, refl), λ x. x)
  by_ring RingVerdict.Proved h = ((RingVerdict.Proved, h, refl), tt)
  by_ring (RingVerdict.No at left right) h = ((RingVerdict.No at left right, h, refl), λ x. x)

  by_field : (v : FieldVerdict) → IsFieldVerdict file e v → IsAccepted ByField (field_answer v)
  by_field FieldVerdict.Atoms h = ((FieldVerdict.Atoms, h, refl), λ x. x)
  by_field FieldVerdict.Range h = ((FieldVerdict.Range, h, refl), λ x. x)
  by_field FieldVerdict.Degree h = ((FieldVerdict.Degree, h, refl), λ x. x)
  by_field (FieldVerdict.ZeroDenominator t) h = ((FieldVerdict.ZeroDenominator t, h, refl), λ x. x)
  by_field (FieldVerdict.Proved conditions) h = ((FieldVerdict.Proved conditions, h, refl), tt)
  by_field (FieldVerdict.No at left right) h = ((FieldVerdict.No at left right, h, refl), λ x. x)

  by_nsatz : (uses : List Use) (power limit : ℕ) →
      ((numbers : List ℤ) (cert : Cert) → IsVerdictOf file e uses power limit (NsatzVerdict.Proved numbers cert) →
      IsAccepted (ByNsatz uses power limit) (Answer.Certified numbers cert)) →
      (v : NsatzVerdict) → IsVerdictOf file e uses power limit v →
      IsAccepted (ByNsatz uses power limit) (nsatz_answer_of v)
  by_nsatz uses power limit proved NsatzVerdict.Atoms h = refl
  by_nsatz uses power limit proved NsatzVerdict.Range h = refl
  by_nsatz uses power limit proved NsatzVerdict.Degree h = refl
  by_nsatz uses power limit proved (NsatzVerdict.Proved numbers cert) h = proved numbers cert h
  by_nsatz uses power limit proved (NsatzVerdict.NoneUpTo r) h = refl
  by_nsatz uses power limit proved (NsatzVerdict.GaveUp n) h = refl

  by_method : (method : Method) → ((numbers : List ℤ) (cert : Cert) →
      IsVerdictBy file e method (NsatzVerdict.Proved numbers cert) →
      IsAccepted method (Answer.Certified numbers cert)) →
      (answer : Answer) → IsAnswerBy file e method answer → IsAccepted method answer
  by_method ByRing proved answer (v, h, same) = subst (IsAccepted ByRing) (sym same) (by_ring v h)
  by_method ByField proved answer (v, h, same) = subst (IsAccepted ByField) (sym same) (by_field v h)
  by_method (ByNsatz uses power limit) proved answer (v, h, same) =
      subst (IsAccepted (ByNsatz uses power limit)) (sym same) (by_nsatz uses power limit proved v h)

pub answers_are_accepted : ProvedIsAccepted → AnswersAreAccepted
answers_are_accepted law file i answer valid low h =
    let goal = goal_at file i in
    by_method file goal.equation goal.method (law file i valid low) answer h
