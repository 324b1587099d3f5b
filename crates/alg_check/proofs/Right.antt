-- A goal that is reported proved is right.
use Rattle.std.specs.Prelude.{◌≡◌, ◌<◌, ℕ, ℤ, List, [], length}
use Rattle.std.proofs.Common.{refl, sym, ap, subst, ◌∙◌, inl, inr}
use Rattle.alg_terms.specs.declared.file.File.{File}
use Rattle.alg_terms.specs.declared.goals.Goal.{Goal}
use Rattle.alg_terms.specs.declared.goals.Method.{Method}
use Rattle.alg_terms.specs.declared.goals.Method.TheVariants.{ByRing, ByField, ByNsatz}
use Rattle.alg_terms.specs.declared.goals.Use.{Use}
use Rattle.alg_terms.specs.Members.{goal_at}
use Rattle.alg_terms.specs.Valid.{IsValid}
use Rattle.alg_universe.specs.declared.universe.Universe.{Ghosts}
use Rattle.alg_universe.specs.Right.{IsRight}
use Rattle.alg_lines.specs.declared.answer.Answer.{Answer}
use Rattle.alg_lines.specs.declared.answer.GoalCheck.{GoalCheck}
use Rattle.alg_lines.specs.declared.cert.Cert.{Cert}
use Rattle.alg_lines.specs.Accepting.{Acceptance, Accepting, IsGood}
use Rattle.alg_meaning.specs.FractionValues.{EqualNumerators}
use Rattle.alg_reify.specs.declared.stop.Stop.{Stop}
use Rattle.alg_reify.specs.Answers.{field_answer, ring_answer}
use Rattle.alg_reify.specs.FieldVerdict.{FieldVerdict, IsFieldVerdict}
use Rattle.alg_reify.specs.Preparing.{prepared_goal, prepared_hyps}
use Rattle.alg_reify.specs.RingVerdict.{RingVerdict, IsRingVerdict}
use Rattle.alg_reify.proofs.Right.{ring_is_right, field_is_right}
use Rattle.alg_check.specs.Certified.{IsCertifiedBy}
use Rattle.alg_check.specs.Laws.{CertifiedIsRight, ProvedIsRight, printed_conditions, printed_constants}
use Rattle.alg_check.specs.Reports.{HasConstants, IsCertReport, IsNsatzReport, IsProof, IsReportBy, Judges, StopReport}

-- a verdict by ring whose answer is a proof is Proved
ring_proof : (v : RingVerdict) → IsProof (ring_answer v) → v ≡ RingVerdict.Proved
ring_proof RingVerdict.Proved h = refl
ring_proof RingVerdict.Atoms h = absurd h
ring_proof RingVerdict.Range h = absurd h
ring_proof RingVerdict.Degree h = absurd h
ring_proof (RingVerdict.No at a b) h = absurd h

-- by field it is Proved under the conditions of the answer
field_proof : (v : FieldVerdict) → IsProof (field_answer v) →
    v ≡ FieldVerdict.Proved (printed_conditions (field_answer v))
field_proof (FieldVerdict.Proved conditions) h = refl
field_proof FieldVerdict.Atoms h = absurd h
field_proof FieldVerdict.Range h = absurd h
field_proof FieldVerdict.Degree h = absurd h
field_proof (FieldVerdict.ZeroDenominator t) h = absurd h
field_proof (FieldVerdict.No at a b) h = absurd h

-- neither has constants
field_constants : (v : FieldVerdict) → printed_constants (field_answer v) ≡ []
field_constants (FieldVerdict.Proved conditions) = refl
field_constants FieldVerdict.Atoms = refl
field_constants FieldVerdict.Range = refl
field_constants FieldVerdict.Degree = refl
field_constants (FieldVerdict.ZeroDenominator t) = refl
field_constants (FieldVerdict.No at a b) = refl

-- ---- a report OkProved on a certificate
no_stop : (stop : Stop) → StopReport stop GoalCheck.OkProved → ⊥
no_stop Stop.Atoms h = cc
no_stop Stop.Range h = cc
no_stop Stop.Degree h = cc
no_stop Stop.NoMemory h = h

is_good : (right : Type 0) (a : Acceptance) → Judges right a GoalCheck.OkProved → (a ≡ Acceptance.Good) × right
is_good right Acceptance.Good (inl (h, e)) = (refl, h)
is_good right Acceptance.Good (inr (h, e)) = absurd (cc)
is_good right (Acceptance.Bad at) e = absurd (cc)
is_good right Acceptance.Range e = absurd (cc)
is_good right Acceptance.Degree e = absurd (cc)

module _ (file : File) (goal : Goal) (uses : List Use) (power : ℕ) (numbers : List ℤ) (cert : Cert) where
  proof_of : IsCertReport file goal.equation uses power numbers cert GoalCheck.OkProved →
      IsGood (prepared_hyps file goal.equation uses) (prepared_goal file goal.equation uses) cert
      × HasConstants file goal.equation uses power numbers cert
  proof_of (IsCertReport.bad_power h e) = absurd (cc)
  proof_of (IsCertReport.stopped stop h p e) = absurd (no_stop stop e)
  proof_of (IsCertReport.tried h p (a, tried, judged)) =
      let is = is_good (HasConstants file goal.equation uses power numbers cert) a judged in (
        subst (Accepting (prepared_hyps file goal.equation uses) (prepared_goal file goal.equation uses) cert) is.0
            tried,
        is.1,
      )

module _ {E : Type 0} (u : Ghosts E) (equal : EqualNumerators u) (certified : CertifiedIsRight u) (file : File) (i : ℕ)
    (valid : IsValid file) (there : i < length file.goals) where
  abbrev Right : Answer → Type 0
  Right answer = IsRight u file i (printed_conditions answer) (printed_constants answer)

  by_ring : (answer : Answer) → (goal_at file i).method ≡ ByRing →
      IsReportBy file (goal_at file i).equation ByRing answer GoalCheck.OkProved → Right answer
  by_ring answer method ((v, verdict, is), proof) =
      let proved = ring_proof v (subst IsProof is proof) in
      let own : IsRingVerdict file (goal_at file i).equation RingVerdict.Proved =
      subst (IsRingVerdict file (goal_at file i).equation) proved verdict in
      subst Right (sym (is ∙ ap ring_answer proved)) (ring_is_right u file i valid there method own)

  by_field : (answer : Answer) → (goal_at file i).method ≡ ByField →
      IsReportBy file (goal_at file i).equation ByField answer GoalCheck.OkProved → Right answer
  by_field answer method ((v, verdict, is), proof) =
      let terms = printed_conditions (field_answer v) in
      let proved = field_proof v (subst IsProof is proof) in
      let own : IsFieldVerdict file (goal_at file i).equation (FieldVerdict.Proved terms) =
      subst (IsFieldVerdict file (goal_at file i).equation) proved verdict in
      let P : List ℤ → Type 0 = λ numbers. IsRight u file i terms numbers in
      subst Right (sym is)
      (subst P (sym (field_constants v)) (field_is_right u equal file i terms valid there method own))

  by_cert : (uses : List Use) (power limit : ℕ) (numbers : List ℤ) (cert : Cert) →
      (goal_at file i).method ≡ ByNsatz uses power limit →
      IsCertReport file (goal_at file i).equation uses power numbers cert GoalCheck.OkProved →
      IsRight u file i [] numbers
  by_cert uses power limit numbers cert method report =
      let proof = proof_of file (goal_at file i) uses power numbers cert report in
      let P : Method → Type 0 = λ m. IsCertifiedBy file (goal_at file i).equation m cert in
      let Q : List ℤ → Type 0 = λ l. IsRight u file i [] l in
      subst Q (sym proof.1) (certified file i valid there cert (subst P (sym method) proof.0))

  by_nsatz : (uses : List Use) (power limit : ℕ) (answer : Answer) →
      (goal_at file i).method ≡ ByNsatz uses power limit →
      IsNsatzReport file (goal_at file i).equation uses power answer GoalCheck.OkProved → Right answer
  by_nsatz uses power limit (Answer.Certified numbers cert) method report =
      by_cert uses power limit numbers cert method report
  by_nsatz uses power limit (Answer.Proved conditions) method report = absurd (cc)
  by_nsatz uses power limit (Answer.No at a b) method report = absurd (cc)
  by_nsatz uses power limit (Answer.ZeroDenominator t) method report = absurd (cc)
  by_nsatz uses power limit (Answer.NoneUpTo n) method report = absurd (cc)
  by_nsatz uses power limit (Answer.GaveUp n) method report = absurd (cc)
  by_nsatz uses power limit Answer.Atoms method report = absurd (cc)
  by_nsatz uses power limit Answer.Range method report = absurd (cc)
  by_nsatz uses power limit Answer.Degree method report = absurd (cc)

  by_method : (method : Method) (answer : Answer) → (goal_at file i).method ≡ method →
      IsReportBy file (goal_at file i).equation method answer GoalCheck.OkProved → Right answer
  by_method ByRing answer is report = by_ring answer is report
  by_method ByField answer is report = by_field answer is report
  by_method (ByNsatz uses power limit) answer is report = by_nsatz uses power limit answer is report

pub proved_is_right : {E : Type 0} (u : Ghosts E) → EqualNumerators u → CertifiedIsRight u → ProvedIsRight u
proved_is_right u equal certified file i answer valid there report =
    by_method u equal certified file i valid there (goal_at file i).method answer refl report
