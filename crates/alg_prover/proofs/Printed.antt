-- The answers to the goals of a valid file can be printed.
use Rattle.std.specs.Prelude.{◌≡◌, ◌<◌, ◌^◌, ℕ, List, [], ◌∷◌, length, All}
use Rattle.std.specs.List.{AllZip}
use Rattle.std.proofs.Common.{refl, sym, subst, arith}
use Rattle.std.proofs.lemmas.List.Elements.{All-nil, All-head, All-tail}
use Rattle.alg_terms.specs.declared.file.File.{File}
use Rattle.alg_terms.specs.declared.goals.Goal.{Goal}
use Rattle.alg_terms.specs.declared.goals.Method.{Method}
use Rattle.alg_terms.specs.declared.goals.Method.TheVariants.{ByRing, ByField, ByNsatz}
use Rattle.alg_terms.specs.declared.goals.Use.{Use}
use Rattle.alg_terms.specs.GoalRules.{IsGoal, IsHyp, IsNsatz, MayBeBy}
use Rattle.alg_lines.specs.declared.answer.Answer.{Answer}
use Rattle.alg_groebner.specs.Laws.{PowersAreSought}
use Rattle.alg_nsatz.specs.Laws.{ProvedIsWithin}
use Rattle.alg_nsatz.specs.Verdict.{NsatzVerdict, IsVerdictBy, IsVerdictOf}
use Rattle.alg_printer.specs.Printable.{HasForm, HasParts, IsPrintable}
use Rattle.alg_reify.specs.Answers.{field_answer, ring_answer}
use Rattle.alg_reify.specs.FieldLaws.{FieldNoIsAMonomial, FieldNoIsOverTheTable, FieldNoIsWithinRange, FieldTermsMayStand}
use Rattle.alg_reify.specs.FieldVerdict.{FieldVerdict, IsFieldVerdict}
use Rattle.alg_reify.specs.Laws.{NoIsAMonomial, NoIsOverTheTable, NoIsWithinRange}
use Rattle.alg_reify.specs.Preparing.{IsByNsatz, is_equation, prepared_goal, prepared_hyps, used_difference}
use Rattle.alg_reify.specs.RingVerdict.{RingVerdict, IsRingVerdict}
use Rattle.alg_reify.specs.Table.{table}
use Rattle.alg_reify.proofs.UseTurns.{kept_length}
use Rattle.alg_prover.specs.Answers.{IsAnswer, IsAnswerBy, nsatz_answer_of}
use Rattle.alg_prover.specs.Laws.{AnswersArePrintable}
use Rattle.alg_prover.proofs.Answered.{IsAnswered, printable_each}
use Rattle.alg_prover.proofs.Certificates.{certified_is_printable, gave_up_is_printable, none_is_printable}
use Rattle.alg_prover.proofs.Printing.{conditions_are_printable, denominator_is_printable, field_no_prints, no_prints}

-- what is known of the monomials, numbers and terms of verdicts
pub record AreBounded : Type 0 where
  pub over : NoIsOverTheTable
  pub range : NoIsWithinRange
  pub monomial : NoIsAMonomial
  pub field_over : FieldNoIsOverTheTable
  pub field_range : FieldNoIsWithinRange
  pub field_monomial : FieldNoIsAMonomial
  pub field_terms : FieldTermsMayStand
  pub proved : ProvedIsWithin
  pub sought : PowersAreSought

module _ (law : AreBounded) (file : File) (hyps : All (IsHyp file) file.hyps) (goal : Goal) (is : IsGoal file goal) where
  abbrev Prints : Answer → Type 0
  Prints answer = IsPrintable file goal answer

  -- an answer without parts
  plain : (method : Method) (answer : Answer) → goal.method ≡ method → HasForm method answer →
      HasParts file goal answer → Prints answer
  plain method answer by form parts =
      record { form = subst (λ m. HasForm m answer) (sym by) form; parts = parts }

  by_ring : goal.method ≡ ByRing → (v : RingVerdict) → IsRingVerdict file goal.equation v → Prints (ring_answer v)
  by_ring by RingVerdict.Atoms h = plain ByRing Answer.Atoms by tt tt
  by_ring by RingVerdict.Range h = plain ByRing Answer.Range by tt tt
  by_ring by RingVerdict.Degree h = plain ByRing Answer.Degree by tt tt
  by_ring by RingVerdict.Proved h = plain ByRing (Answer.Proved []) by tt (All-nil _)
  by_ring by (RingVerdict.No at left right) h =
      no_prints file goal law.over law.range at left right is.equation by
      (law.monomial file goal.equation at left right h) h

  by_field : goal.method ≡ ByField → (v : FieldVerdict) → IsFieldVerdict file goal.equation v → Prints (field_answer v)
  by_field by FieldVerdict.Atoms h = plain ByField Answer.Atoms by tt tt
  by_field by FieldVerdict.Range h = plain ByField Answer.Range by tt tt
  by_field by FieldVerdict.Degree h = plain ByField Answer.Degree by tt tt
  by_field by (FieldVerdict.ZeroDenominator t) h = denominator_is_printable file goal law.field_terms is by t h
  by_field by (FieldVerdict.Proved conditions) h =
      conditions_are_printable file goal law.field_terms is by conditions h
  by_field by (FieldVerdict.No at left right) h =
      field_no_prints file goal law.field_over law.field_range at left right by
      (law.field_monomial file goal.equation at left right h) h

  module _ (uses : List Use) (power limit : ℕ) (by : goal.method ≡ ByNsatz uses power limit)
      (may : IsNsatz file goal.equation uses power limit) where
    few : length (prepared_hyps file goal.equation uses) < 2 ^ 31
    few =
        let kept = kept_length (is_equation file) (used_difference file (table file goal.equation uses)) uses in
        let uses_few = may.few_uses in
        omega (arith, kept, uses_few)

    by_nsatz : (v : NsatzVerdict) → IsVerdictOf file goal.equation uses power limit v → Prints (nsatz_answer_of v)
    by_nsatz NsatzVerdict.Atoms h = plain (ByNsatz uses power limit) Answer.Atoms by tt tt
    by_nsatz NsatzVerdict.Range h = plain (ByNsatz uses power limit) Answer.Range by tt tt
    by_nsatz NsatzVerdict.Degree h = plain (ByNsatz uses power limit) Answer.Degree by tt tt
    by_nsatz (NsatzVerdict.Proved numbers cert) h =
        certified_is_printable file goal (subst IsByNsatz (sym by) tt) law.proved hyps is numbers cert
        (subst (λ m. IsVerdictBy file goal.equation m (NsatzVerdict.Proved numbers cert)) (sym by) h)
    by_nsatz (NsatzVerdict.NoneUpTo r) h =
        let power_high = may.power_high in
        let limit_high = may.limit_high in
        let sought = law.sought.none (prepared_hyps file goal.equation uses) (prepared_goal file goal.equation uses)
        power limit few (omega (arith, power_high)) (omega (arith, limit_high)) h.0 r h.1.1 in
        none_is_printable file goal (subst IsByNsatz (sym by) tt) r (omega (arith, sought, power_high))
    by_nsatz (NsatzVerdict.GaveUp n) h =
        let same = h.0 in
        let limit_high = may.limit_high in
        gave_up_is_printable file goal (subst IsByNsatz (sym by) tt) n (omega (arith, same, limit_high))

  by_method : (method : Method) → goal.method ≡ method → MayBeBy file goal.equation method → (answer : Answer) →
      IsAnswerBy file goal.equation method answer → Prints answer
  by_method ByRing by may answer (v, h, same) = subst Prints (sym same) (by_ring by v h)
  by_method ByField by may answer (v, h, same) = subst Prints (sym same) (by_field by v h)
  by_method (ByNsatz uses power limit) by may answer (v, h, same) =
      subst Prints (sym same) (by_nsatz uses power limit by may v h)

  printable : (answer : Answer) → IsAnswer file goal answer → Prints answer
  printable answer h = by_method goal.method refl is.method answer h

module _ (law : AreBounded) (file : File) (hyps : All (IsHyp file) file.hyps) where
  each_printable : (goals : List Goal) (answers : List Answer) → All (IsGoal file) goals →
      AllZip (IsAnswer file) goals answers → AllZip (IsAnswered file) goals answers
  each_printable [] [] are h = tt
  each_printable [] (a ∷ answers) are h = absurd h
  each_printable (goal ∷ goals) [] are h = absurd h
  each_printable (goal ∷ goals) (a ∷ answers) are h = (
    (h.0, printable law file hyps goal (All-head (IsGoal file) goal goals are) a h.0),
    each_printable goals answers (All-tail (IsGoal file) goal goals are) h.1,
  )

pub answers_are_printable : AreBounded → AnswersArePrintable
answers_are_printable law file answers valid h =
    printable_each file answers (each_printable law file valid.hyps file.goals answers valid.goals h)
