-- What an answer `none up to power` says of its goal.
use Rattle.std.specs.Prelude.{◌≡◌, ℕ, List, All}
use Rattle.std.proofs.Common.{subst, arith}
use Rattle.alg_terms.specs.declared.file.File.{File}
use Rattle.alg_terms.specs.declared.goals.Equation.{Equation}
use Rattle.alg_terms.specs.declared.goals.Method.{Method}
use Rattle.alg_terms.specs.declared.goals.Method.TheVariants.{ByRing, ByField, ByNsatz}
use Rattle.alg_terms.specs.declared.goals.Use.{Use}
use Rattle.alg_terms.specs.GoalRules.{IsGoal, IsHyp, IsNsatz, MayBeBy}
use Rattle.alg_terms.specs.Members.{goal_at, no_goal, uses_of}
use Rattle.alg_terms.specs.Valid.{IsValid}
use Rattle.alg_lines.specs.declared.answer.Answer.{Answer}
use Rattle.alg_lines.specs.declared.answer.Answer.TheVariants.{NoneUpTo}
use Rattle.alg_criterion.specs.Laws.{HasNone, NoneExists}
use Rattle.alg_reify.specs.Answers.{field_answer, ring_answer}
use Rattle.alg_reify.specs.FieldVerdict.{FieldVerdict}
use Rattle.alg_reify.specs.Preparing.{prepared_goal, prepared_hyps}
use Rattle.alg_reify.specs.RingVerdict.{RingVerdict}
use Rattle.alg_nsatz.specs.Verdict.{NsatzVerdict, IsVerdictOf}
use Rattle.alg_nsatz.proofs.Within.{few_prepared, prepared_are, prepared_is}
use Rattle.alg_prover.specs.Answers.{AreAnswers, IsAnswerBy, nsatz_answer_of}
use Rattle.alg_cli.specs.Replies.{NonesHaveNone}
use Rattle.alg_cli.proofs.Places.{pair_at}

-- only a goal by nsatz has this answer
never_by_ring : (power : ℕ) (v : RingVerdict) → NoneUpTo power ≡ ring_answer v → ⊥
never_by_ring power RingVerdict.Atoms same = cc
never_by_ring power RingVerdict.Range same = cc
never_by_ring power RingVerdict.Degree same = cc
never_by_ring power RingVerdict.Proved same = cc
never_by_ring power (RingVerdict.No m a b) same = cc

never_by_field : (power : ℕ) (v : FieldVerdict) → NoneUpTo power ≡ field_answer v → ⊥
never_by_field power FieldVerdict.Atoms same = cc
never_by_field power FieldVerdict.Range same = cc
never_by_field power FieldVerdict.Degree same = cc
never_by_field power (FieldVerdict.ZeroDenominator t) same = cc
never_by_field power (FieldVerdict.Proved conditions) same = cc
never_by_field power (FieldVerdict.No m a b) same = cc

module _ (law : NoneExists) (file : File) (hyps : All (IsHyp file) file.hyps) (e : Equation) where
  -- the end of the search is that nothing is left to do
  searched : (uses : List Use) (power limit greatest : ℕ) (v : NsatzVerdict) → IsNsatz file e uses power limit →
      IsVerdictOf file e uses power limit v → NoneUpTo greatest ≡ nsatz_answer_of v →
      HasNone (prepared_hyps file e uses) (prepared_goal file e uses) greatest
  searched uses power limit greatest NsatzVerdict.Atoms is h same = absurd (cc)
  searched uses power limit greatest NsatzVerdict.Range is h same = absurd (cc)
  searched uses power limit greatest NsatzVerdict.Degree is h same = absurd (cc)
  searched uses power limit greatest (NsatzVerdict.Proved constants cert) is h same = absurd (cc)
  searched uses power limit greatest (NsatzVerdict.GaveUp n) is h same = absurd (cc)
  searched uses power limit greatest (NsatzVerdict.NoneUpTo r) is h same =
      let power_is : r ≡ greatest = cc in
      let high = is.power_high in
      let far = is.limit_high in
      subst (HasNone (prepared_hyps file e uses) (prepared_goal file e uses)) power_is
      (law (prepared_hyps file e uses) (prepared_goal file e uses) power limit h.0 r (record {
        hypotheses = prepared_are file hyps e uses is.each_use;
        goal = prepared_is file hyps e uses is.each_use;
        few = few_prepared file e uses is.few_uses;
        powers = omega arith;
        limited = omega arith;
        comes = h.1.1;
      }))

  none_by : (method : Method) (greatest : ℕ) → MayBeBy file e method → IsAnswerBy file e method (NoneUpTo greatest) →
      HasNone (prepared_hyps file e (uses_of method)) (prepared_goal file e (uses_of method)) greatest
  none_by ByRing greatest is (v, h, same) = absurd (never_by_ring greatest v same)
  none_by ByField greatest is (v, h, same) = absurd (never_by_field greatest v same)
  none_by (ByNsatz uses power limit) greatest is (v, h, same) = searched uses power limit greatest v is h same

-- no certificate exists for the goals that are answered so
pub nones_have_none : NoneExists → (file : File) (answers : List Answer) → IsValid file → AreAnswers file answers →
    NonesHaveNone file answers
nones_have_none law file answers valid are = λ i greatest there.
    let (low, answer) = pair_at file file.goals answers i (NoneUpTo greatest) are there in
    let goal = goal_at file i in
    let rules : IsGoal file goal = valid.goals i no_goal low in
    none_by law file valid.hyps goal.equation goal.method greatest rules.method answer
