-- The text of a file with the answers to its goals is accepted by `check`.
use Rattle.std.specs.Prelude.{◌≡◌, ◌<◌, ℕ, zero, suc, List, [], ◌∷◌, ◌++◌, Contains, IfSome, Option, Some, None, flat_map, length, map, slice_get, slice_index_or}
use Rattle.std.specs.List.{AllZip}
use Rattle.std.proofs.Common.{refl, sym, ap, subst, arith}
use Rattle.std.proofs.lemmas.List.Elements.{All-nil, All-contains, All-weaker, Contains-append_left}
use Rattle.alg_terms.specs.declared.file.File.{File}
use Rattle.alg_terms.specs.declared.file.Statement.TheVariants as statement
use Rattle.alg_terms.specs.declared.goals.Equation.{Equation}
use Rattle.alg_terms.specs.declared.goals.Goal.{Goal}
use Rattle.alg_terms.specs.declared.goals.Method.{Method}
use Rattle.alg_terms.specs.declared.goals.Method.TheVariants.{ByRing, ByField, ByNsatz}
use Rattle.alg_terms.specs.declared.term.Term.{Term}
use Rattle.alg_terms.specs.Members.{goal_at, no_goal, uses_of}
use Rattle.alg_terms.specs.Nodes.{fold_term}
use Rattle.alg_terms.specs.Occurring.{UseOnly, homs_in, node_homs, node_vars, vars_in}
use Rattle.alg_terms.specs.Order.{AreAmong, Members, declared_by_all, used_by}
use Rattle.alg_terms.specs.Valid.{IsValid}
use Rattle.alg_check.specs.Reports.{IsReport}
use Rattle.alg_lines.specs.AnswerTerms.{terms_of}
use Rattle.alg_lines.specs.declared.answer.Answer.{Answer}
use Rattle.alg_lines.specs.declared.answer.GoalCheck.{GoalCheck}
use Rattle.alg_printer.specs.Text.{answer_at}
use Rattle.alg_reading_back.specs.ReadingAnswers.{AreAnswersInOrder, ReadsBackWithAnswers}
use Rattle.alg_reify.specs.Answers.{field_answer, ring_answer}
use Rattle.alg_reify.specs.FieldLaws.{FieldTermsOccur}
use Rattle.alg_reify.specs.FieldVerdict.{FieldVerdict, IsFieldVerdict}
use Rattle.alg_reify.specs.RingVerdict.{RingVerdict}
use Rattle.alg_nsatz.specs.Verdict.{NsatzVerdict}
use Rattle.alg_prover.specs.Answers.{AreAnswers, IsAnswer, IsAnswerBy, nsatz_answer_of}
use Rattle.alg_prover.specs.Laws.{AnswersArePrintable}
use Rattle.alg_cli.specs.Checked.{AreReports}
use Rattle.alg_cli.specs.OwnAnswers.{AnswersAreAccepted, CheckAccepts, own_report, own_reports}

-- ---- the terms of an answer occur in the goal
abbrev OccurIn : Equation → List Term → Type 0
OccurIn e = UseOnly (vars_in e) (homs_in e)

module _ (law : FieldTermsOccur) (file : File) (e : Equation) where
  none : OccurIn e []
  none = record { vars = All-nil (Contains (vars_in e)); homs = All-nil (Contains (homs_in e)) }

  by_ring : (v : RingVerdict) → OccurIn e (terms_of (ring_answer v))
  by_ring RingVerdict.Atoms = none
  by_ring RingVerdict.Range = none
  by_ring RingVerdict.Degree = none
  by_ring RingVerdict.Proved = none
  by_ring (RingVerdict.No at left right) = none

  by_field : (v : FieldVerdict) → IsFieldVerdict file e v → OccurIn e (terms_of (field_answer v))
  by_field FieldVerdict.Atoms h = none
  by_field FieldVerdict.Range h = none
  by_field FieldVerdict.Degree h = none
  by_field (FieldVerdict.ZeroDenominator t) h = law.denominator file e t h
  by_field (FieldVerdict.Proved conditions) h = law.conditions file e conditions h
  by_field (FieldVerdict.No at left right) h = none

  by_nsatz : (v : NsatzVerdict) → OccurIn e (terms_of (nsatz_answer_of v))
  by_nsatz NsatzVerdict.Atoms = none
  by_nsatz NsatzVerdict.Range = none
  by_nsatz NsatzVerdict.Degree = none
  by_nsatz (NsatzVerdict.Proved numbers cert) = none
  by_nsatz (NsatzVerdict.NoneUpTo r) = none
  by_nsatz (NsatzVerdict.GaveUp n) = none

  abbrev Occurs : Answer → Type 0
  Occurs answer = OccurIn e (terms_of answer)

  occurs : (method : Method) (answer : Answer) → IsAnswerBy file e method answer → Occurs answer
  occurs ByRing answer (v, h, same) = subst Occurs (sym same) (by_ring v)
  occurs ByField answer (v, h, same) = subst Occurs (sym same) (by_field v h)
  occurs (ByNsatz uses power limit) answer (v, h, same) = subst Occurs (sym same) (by_nsatz v)

-- ---- so they use only members before the goal
module _ (file : File) (members : Members) (i : ℕ) (among : AreAmong (used_by file (statement.Goal i)) members) where
  abbrev paths : List ℕ
  paths = flat_map (λ used. used.path) (uses_of (goal_at file i).method)

  named : (answer : Answer) → OccurIn (goal_at file i).equation (terms_of answer) →
      UseOnly members.vars members.homs (terms_of answer)
  named answer occur =
      let vars = vars_in (goal_at file i).equation in
      let homs = homs_in (goal_at file i).equation in
      record {
        vars =
            All-weaker (Contains vars) (Contains members.vars)
            (λ k held. All-contains (Contains members.vars) vars k among.vars held)
            (flat_map (fold_term node_vars) (terms_of answer)) occur.vars;
        homs =
            All-weaker (Contains homs) (Contains members.homs)
            (λ f held. All-contains (Contains members.homs) (homs ++ paths) f among.homs
            (Contains-append_left homs paths f held)) (flat_map (fold_term node_homs) (terms_of answer)) occur.homs;
      }

-- the answer at a place, where there is one, is that of the goal there
answered_at : (file : File) (goals : List Goal) (answers : List Answer) (i : ℕ) → AllZip (IsAnswer file) goals answers →
    IfSome (slice_index_or (map Some answers) i None) (IsAnswer file (slice_index_or goals i no_goal))
answered_at file [] [] i h = tt
answered_at file [] (a ∷ answers) i h = absurd h
answered_at file (goal ∷ goals) [] i h = absurd h
answered_at file (goal ∷ goals) (a ∷ answers) zero h = h.0
answered_at file (goal ∷ goals) (a ∷ answers) (suc i) h = answered_at file goals answers i h.1

in_order : FieldTermsOccur → (file : File) (answers : List Answer) → IsValid file → AreAnswers file answers →
    AreAnswersInOrder file (map Some answers)
in_order law file answers valid are before after i split =
    let among = valid.ordered.earlier before after (statement.Goal i) split in
    let goal = goal_at file i in
    weaker (answer_at (map Some answers) i) (λ answer is.
    named file (declared_by_all before) i among answer (occurs law file goal.equation goal.method answer is))
    (answered_at file file.goals answers i are)
  where
    weaker : {P Q : Answer → Type 0} (answer : Option Answer) → ((a : Answer) → P a → Q a) → IfSome answer P →
        IfSome answer Q
    weaker None to h = tt
    weaker (Some a) to h = to a h

-- ---- the reports
module _ (file : File) where
  abbrev Reported : ℕ → Option Answer → GoalCheck → Type 0
  Reported i answer report = IsReport file (goal_at file i) answer report

  -- a report that is there is that on the answer to the goal at its place
  record IsOwn (goals : List Goal) (answers : List Answer) (i : ℕ) (report : GoalCheck) : Type 0 where
    answer : Answer
    within : i < length goals
    is : IsAnswer file (slice_index_or goals i no_goal) answer
    there : slice_index_or (map Some answers) i None ≡ Some answer
    own : own_report (slice_index_or goals i no_goal).method answer ≡ report

  own_at : (goals : List Goal) (answers : List Answer) (i : ℕ) (report : GoalCheck) →
      AllZip (IsAnswer file) goals answers → slice_get (own_reports goals answers) i ≡ Some report →
      IsOwn goals answers i report
  own_at [] answers i report h there = absurd (cc)
  own_at (goal ∷ goals) [] i report h there = absurd h
  own_at (goal ∷ goals) (a ∷ answers) zero report h there =
      record { answer = a; within = omega arith; is = h.0; there = refl; own = cc }
  own_at (goal ∷ goals) (a ∷ answers) (suc i) report h there =
      let later = own_at goals answers i report h.1 there in
      let low = later.within in
      record { answer = later.answer; within = omega (arith, low); is = later.is; there = later.there; own = later.own }

  own_count : (goals : List Goal) (answers : List Answer) → AllZip (IsAnswer file) goals answers →
      length (own_reports goals answers) ≡ length goals
  own_count [] answers h = refl
  own_count (goal ∷ goals) [] h = absurd h
  own_count (goal ∷ goals) (a ∷ answers) h = ap suc (own_count goals answers h.1)

are_reports : AnswersAreAccepted → (file : File) (answers : List Answer) → IsValid file → AreAnswers file answers →
    AreReports file (map Some answers) (own_reports file.goals answers)
are_reports law file answers valid are = record {
  count = own_count file file.goals answers are;
  each = λ i report there.
      let own = own_at file file.goals answers i report are there in
      subst (λ answer. Reported file i answer report) (sym own.there)
      (subst (Reported file i (Some own.answer)) own.own (law file i own.answer valid own.within own.is));
}

pub check_accepts : FieldTermsOccur → AnswersArePrintable → AnswersAreAccepted → ReadsBackWithAnswers → CheckAccepts
check_accepts occur printable accepted reads file answers valid are few = record {
  reads = reads file (map Some answers) record {
    valid = valid;
    printable = printable file answers valid are;
    in_order = in_order occur file answers valid are;
    few = few;
  };
  reports = are_reports accepted file answers valid are;
}
