-- What the answers to goals say.
use Rattle.std.proofs.Common.{◌≡◌, ℕ, ℤ, List, [], ◌∷◌, refl, sym, ap, ◌∙◌, subst}
use Rattle.std.specs.List.{AllZip}
use Rattle.alg_lines.specs.declared.answer.Answer.{Answer}
use Rattle.alg_lines.specs.declared.answer.Answer.TheVariants.{Proved, Certified, No}
use Rattle.alg_lines.specs.declared.cert.Cert.{Cert}
use Rattle.alg_mono.specs.Mono.{Monomial}
use Rattle.alg_terms.specs.declared.file.File.{File}
use Rattle.alg_terms.specs.declared.goals.Equation.{Equation}
use Rattle.alg_terms.specs.declared.goals.Goal.{Goal}
use Rattle.alg_terms.specs.declared.goals.Method.{Method}
use Rattle.alg_terms.specs.declared.goals.Method.TheVariants.{ByRing, ByField, ByNsatz}
use Rattle.alg_terms.specs.declared.term.Term.{Term}
use Rattle.alg_terms.specs.Members.{goal_at}
use Rattle.alg_universe.specs.declared.universe.Universe.{Ghosts}
use Rattle.alg_universe.specs.Right.{IsRight}
use Rattle.alg_reify.specs.Answers.{field_answer, ring_answer}
use Rattle.alg_reify.specs.RingVerdict.{RingVerdict, IsRingVerdict, SidesDiffer}
use Rattle.alg_reify.specs.FieldLaws.{OneFieldVerdict}
use Rattle.alg_reify.specs.FieldVerdict.{FieldVerdict, IsFieldVerdict}
use Rattle.alg_reify.specs.Laws as reify
use Rattle.alg_field.specs.Laws as field
use Rattle.alg_nsatz.specs.Laws as nsatz
use Rattle.alg_nsatz.specs.Verdict.{NsatzVerdict, IsVerdictBy}
use Rattle.alg_ring.specs.Laws as ring
use Rattle.alg_prover.specs.Answers.{nsatz_answer_of, IsAnswerBy, IsAnswer}
use Rattle.alg_prover.specs.Laws.{OneAnswer, ProvedIsRight, CertifiedIsRight, NoDiffers}

-- the laws that a verdict is determined
pub record AreDetermined : Type 0 where
  pub by_ring : reify.OneRingVerdict
  pub by_field : OneFieldVerdict
  pub by_nsatz : nsatz.OneNsatzVerdict

one_by : AreDetermined → (file : File) (e : Equation) (method : Method) (a b : Answer) →
    IsAnswerBy file e method a → IsAnswerBy file e method b → a ≡ b
one_by law file e ByRing a b (v, h, p) (w, k, q) = p ∙ ap ring_answer (law.by_ring file e v w h k) ∙ sym q
one_by law file e ByField a b (v, h, p) (w, k, q) = p ∙ ap field_answer (law.by_field file e v w h k) ∙ sym q
one_by law file e (ByNsatz uses power limit) a b (v, h, p) (w, k, q) =
    let goal : Goal = record { equation = e; method = ByNsatz uses power limit } in
    p ∙ ap nsatz_answer_of (law.by_nsatz file goal v w h k) ∙ sym q

one_each : AreDetermined → (file : File) (goals : List Goal) (one other : List Answer) →
    AllZip (IsAnswer file) goals one → AllZip (IsAnswer file) goals other → one ≡ other
one_each law file [] [] [] h k = refl
one_each law file [] [] (b ∷ other) h k = absurd k
one_each law file [] (a ∷ one) other h k = absurd h
one_each law file (goal ∷ goals) [] other h k = absurd h
one_each law file (goal ∷ goals) (a ∷ one) [] h k = absurd k
one_each law file (goal ∷ goals) (a ∷ one) (b ∷ other) h k =
    ap (λ x. x ∷ one) (one_by law file goal.equation goal.method a b h.0 k.0)
    ∙ ap (λ xs. b ∷ xs) (one_each law file goals one other h.1 k.1)

-- the answers to the goals of a file are determined
pub one_answer : AreDetermined → OneAnswer
one_answer law file one other h k = one_each law file file.goals one other h k

-- an answer proved is that of the verdict proved, without conditions
proved_only : (file : File) (e : Equation) (conditions : List Term) (v : RingVerdict) → IsRingVerdict file e v →
    Proved conditions ≡ ring_answer v → (conditions ≡ []) × IsRingVerdict file e RingVerdict.Proved
proved_only file e conditions RingVerdict.Atoms h same = absurd (cc)
proved_only file e conditions RingVerdict.Range h same = absurd (cc)
proved_only file e conditions RingVerdict.Degree h same = absurd (cc)
proved_only file e conditions RingVerdict.Proved h same = (cc, h)
proved_only file e conditions (RingVerdict.No m a b) h same = absurd (cc)

-- and by field that of the verdict proved with its conditions
proved_under : (file : File) (e : Equation) (conditions : List Term) (v : FieldVerdict) → IsFieldVerdict file e v →
    Proved conditions ≡ field_answer v → IsFieldVerdict file e (FieldVerdict.Proved conditions)
proved_under file e conditions FieldVerdict.Atoms h same = absurd (cc)
proved_under file e conditions FieldVerdict.Range h same = absurd (cc)
proved_under file e conditions FieldVerdict.Degree h same = absurd (cc)
proved_under file e conditions (FieldVerdict.ZeroDenominator t) h same = absurd (cc)
proved_under file e conditions (FieldVerdict.Proved terms) h same =
    let verdict : FieldVerdict.Proved terms ≡ FieldVerdict.Proved conditions = cc in
    subst (IsFieldVerdict file e) verdict h
proved_under file e conditions (FieldVerdict.No m a b) h same = absurd (cc)

-- by nsatz it is none
never_proved : (conditions : List Term) (v : NsatzVerdict) → Proved conditions ≡ nsatz_answer_of v → ⊥
never_proved conditions NsatzVerdict.Atoms same = cc
never_proved conditions NsatzVerdict.Range same = cc
never_proved conditions NsatzVerdict.Degree same = cc
never_proved conditions (NsatzVerdict.Proved constants cert) same = cc
never_proved conditions (NsatzVerdict.NoneUpTo power) same = cc
never_proved conditions (NsatzVerdict.GaveUp limit) same = cc

proved_by : {E : Type 0} (u : Ghosts E) → ((method : Method) (file : File) (i : ℕ) (conditions : List Term) →
    (method ≡ ByRing → IsRingVerdict file (goal_at file i).equation RingVerdict.Proved → IsRight u file i [] []) →
    (method ≡ ByField → IsFieldVerdict file (goal_at file i).equation (FieldVerdict.Proved conditions) →
    IsRight u file i conditions []) →
    IsAnswerBy file (goal_at file i).equation method (Proved conditions) → IsRight u file i conditions [])
proved_by u ByRing file i conditions right under (v, h, same) =
    let (none, proved) = proved_only file (goal_at file i).equation conditions v h same in
    subst (λ cs. IsRight u file i cs []) (sym none) (right refl proved)
proved_by u ByField file i conditions right under (v, h, same) =
    under refl (proved_under file (goal_at file i).equation conditions v h same)
proved_by u (ByNsatz uses power limit) file i conditions right under (v, h, same) =
    absurd (never_proved conditions v same)

-- a goal that is answered proved is right
pub proved_is_right : {E : Type 0} (u : Ghosts E) → ring.ProvedIsRight u → field.ProvedIsRight u → ProvedIsRight u
proved_is_right u ring_law field_law file i conditions valid low h =
    proved_by u (goal_at file i).method file i conditions (λ by proved. ring_law file i valid low by proved)
    (λ by proved. field_law file i conditions valid low by proved) h

never_certified : (constants : List ℤ) (cert : Cert) (v : RingVerdict) → Certified constants cert ≡ ring_answer v → ⊥
never_certified constants cert RingVerdict.Atoms same = cc
never_certified constants cert RingVerdict.Range same = cc
never_certified constants cert RingVerdict.Degree same = cc
never_certified constants cert RingVerdict.Proved same = cc
never_certified constants cert (RingVerdict.No m a b) same = cc

never_by_field : (constants : List ℤ) (cert : Cert) (v : FieldVerdict) → Certified constants cert ≡ field_answer v →
    ⊥
never_by_field constants cert FieldVerdict.Atoms same = cc
never_by_field constants cert FieldVerdict.Range same = cc
never_by_field constants cert FieldVerdict.Degree same = cc
never_by_field constants cert (FieldVerdict.ZeroDenominator t) same = cc
never_by_field constants cert (FieldVerdict.Proved conditions) same = cc
never_by_field constants cert (FieldVerdict.No m a b) same = cc

-- by nsatz it is that of the verdict proved with its constants
certified_only : (file : File) (e : Equation) (method : Method) (constants : List ℤ) (cert : Cert) (v : NsatzVerdict) →
    IsVerdictBy file e method v → Certified constants cert ≡ nsatz_answer_of v →
    IsVerdictBy file e method (NsatzVerdict.Proved constants cert)
certified_only file e method constants cert NsatzVerdict.Atoms h same = absurd (cc)
certified_only file e method constants cert NsatzVerdict.Range h same = absurd (cc)
certified_only file e method constants cert NsatzVerdict.Degree h same = absurd (cc)
certified_only file e method constants cert (NsatzVerdict.Proved numbers one) h same =
    let verdict : NsatzVerdict.Proved numbers one ≡ NsatzVerdict.Proved constants cert = cc in
    subst (IsVerdictBy file e method) verdict h
certified_only file e method constants cert (NsatzVerdict.NoneUpTo power) h same = absurd (cc)
certified_only file e method constants cert (NsatzVerdict.GaveUp limit) h same = absurd (cc)

certified_by : (file : File) (e : Equation) (method : Method) (constants : List ℤ) (cert : Cert) →
    IsAnswerBy file e method (Certified constants cert) →
    IsVerdictBy file e method (NsatzVerdict.Proved constants cert)
certified_by file e ByRing constants cert (v, h, same) = absurd (never_certified constants cert v same)
certified_by file e ByField constants cert (v, h, same) = absurd (never_by_field constants cert v same)
certified_by file e (ByNsatz uses power limit) constants cert (v, h, same) =
    certified_only file e (ByNsatz uses power limit) constants cert v h same

-- a goal that is answered by a certificate is right
pub certified_is_right : {E : Type 0} (u : Ghosts E) → nsatz.ProvedIsRight u → CertifiedIsRight u
certified_is_right u law file i constants cert valid low h =
    let goal = goal_at file i in
    law file i valid low constants cert (certified_by file goal.equation goal.method constants cert h)

no_only : (file : File) (e : Equation) (at : Monomial) (left right : ℤ) (v : RingVerdict) → IsRingVerdict file e v →
    No at left right ≡ ring_answer v → IsRingVerdict file e (RingVerdict.No at left right)
no_only file e at left right RingVerdict.Atoms h same = absurd (cc)
no_only file e at left right RingVerdict.Range h same = absurd (cc)
no_only file e at left right RingVerdict.Degree h same = absurd (cc)
no_only file e at left right RingVerdict.Proved h same = absurd (cc)
no_only file e at left right (RingVerdict.No m a b) h same =
    let verdict : RingVerdict.No m a b ≡ RingVerdict.No at left right = cc in
    subst (IsRingVerdict file e) verdict h

no_by : reify.NoDiffers → (method : Method) (file : File) (i : ℕ) (at : Monomial) (left right : ℤ) → method ≡ ByRing →
    IsAnswerBy file (goal_at file i).equation method (No at left right) →
    SidesDiffer file (goal_at file i).equation at left right
no_by law ByRing file i at left right by_ring (v, h, same) =
    let e = (goal_at file i).equation in law file e at left right (no_only file e at left right v h same)
no_by law ByField file i at left right by_ring h = absurd (cc)
no_by law (ByNsatz uses power limit) file i at left right by_ring h = absurd (cc)

-- a goal that is answered no has different sides
pub no_differs : reify.NoDiffers → NoDiffers
no_differs law file i at left right by_ring h = no_by law (goal_at file i).method file i at left right by_ring h
