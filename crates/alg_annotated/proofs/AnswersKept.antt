-- The terms of all answers keep the rules of terms in answers, with each statement.
use Rattle.std.proofs.Common.{◌≡◌, ◌≤◌, ◌<◌, ◌+◌, ◌-◌, ℕ, List, [], ◌∷◌, ◌++◌, length, Option, None, Some, IfSome, ap, sym, ◌∙◌, subst, inl, inr, arith}
use Rattle.std.specs.Prelude.{slice_index_or}
use Rattle.std.proofs.Math.Nat.{eq-or-lt_of_le}
use Rattle.std.proofs.lemmas.List.{get_or_append_left}
use Rattle.std.proofs.lemmas.List.Elements.{All-weaker}
use Rattle.alg_lines.specs.declared.answer.Answer.{Answer}
use Rattle.alg_lines.specs.declared.answer.Answer.TheVariants as answer
use Rattle.alg_lines.specs.declared.cert.GoalStep.{GoalStep}
use Rattle.alg_lines.specs.declared.cert.Line.{Line}
use Rattle.alg_terms.specs.AnswerRules.{IsAnswerTerm}
use Rattle.alg_terms.specs.declared.file.File.{File}
use Rattle.alg_terms.specs.declared.goals.Goal.{Goal}
use Rattle.alg_terms.specs.Members.{goal_at, no_goal}
use Rattle.alg_terms.specs.Valid.{IsValid}
use Rattle.alg_typing.proofs.Growing.{Grows}
use Rattle.alg_typing.proofs.GrowingAnswers.{answer_term_same}
use Rattle.alg_typing.proofs.GrowingGoals.{equation_in_range}
use Rattle.alg_typing.proofs.MoreMembers.{last_at}
use Rattle.alg_annotated.specs.Kept.{HasTerms, AreAnswersTo}
use Rattle.alg_annotated.specs.Resolved.{with_last, with_line, with_step}
use Rattle.alg_annotated.specs.Rules.{last_goal}
use Rattle.alg_annotated.proofs.Lasts.{Ending, empty, last, ending, with_last-append, one_longer}

-- ---- growing files

module _ (old new : File) (grows : Grows old new) (valid : IsValid old) where
  has_terms_same : (goal : Goal) → goal.equation.sort < length old.sorts → (said : Answer) → HasTerms old goal said →
      HasTerms new goal said
  has_terms_same goal low (answer.Proved conditions) h =
      All-weaker (IsAnswerTerm old goal) (IsAnswerTerm new goal) (answer_term_same old new grows valid goal low)
      conditions h
  has_terms_same goal low (answer.ZeroDenominator denominator) h =
      answer_term_same old new grows valid goal low denominator h
  has_terms_same goal low (answer.Certified constants cert) h = tt
  has_terms_same goal low (answer.No at left right) h = tt
  has_terms_same goal low (answer.NoneUpTo power) h = tt
  has_terms_same goal low (answer.GaveUp limit) h = tt
  has_terms_same goal low answer.Range h = tt
  has_terms_same goal low answer.Degree h = tt
  has_terms_same goal low answer.Atoms h = tt

  given_same : (goal : Goal) → goal.equation.sort < length old.sorts → (said : Option Answer) →
      IfSome said (HasTerms old goal) → IfSome said (HasTerms new goal)
  given_same goal low None h = tt
  given_same goal low (Some said) h = has_terms_same goal low said h

  sort_low : (i : ℕ) → i < length old.goals → (goal_at old i).equation.sort < length old.sorts
  sort_low i low =
      equation_in_range old valid.homs valid.vars (goal_at old i).equation (valid.goals i no_goal low).equation

  -- the answer to a goal that was there keeps the rules
  pub term_kept_at : (i : ℕ) → i < length old.goals → (said : Option Answer) →
      IfSome said (HasTerms old (goal_at old i)) → IfSome said (HasTerms new (goal_at new i))
  term_kept_at i low said h =
      subst (λ (g : Goal). IfSome said (HasTerms new g)) (sym (grows.goals i low))
      (given_same (goal_at old i) (sort_low i low) said h)

  -- where no goal is added
  pub same_goals : (given : List (Option Answer)) → length new.goals ≡ length old.goals → AreAnswersTo old given →
      AreAnswersTo new given
  same_goals given same h = record {
    count = h.count ∙ sym same;
    terms = λ i low.
        let there : i < length old.goals = omega arith in
        term_kept_at i there (slice_index_or given i None) (h.terms i there);
  }

  -- where one is, which has no answer at first
  pub one_goal : (given : List (Option Answer)) → length new.goals ≡ length old.goals + 1 → AreAnswersTo old given →
      AreAnswersTo new (given ++ None ∷ [])
  one_goal given same h =
      let count : length given ≡ length old.goals = h.count in
      record {
        count = one_longer given None ∙ ap (λ n. n + 1) count ∙ sym same;
        terms = λ i low.
            elim (eq-or-lt_of_le (let e : i ≤ length given = omega arith in e)) [
              | inl is ↦
                  subst (λ (said : Option Answer). IfSome said (HasTerms new (goal_at new i)))
                  (sym (ap (λ k. slice_index_or (given ++ None ∷ []) k None) is ∙ last_at given None None)) tt
              | inr before ↦
                  subst (λ (said : Option Answer). IfSome said (HasTerms new (goal_at new i)))
                  (sym (get_or_append_left given (None ∷ []) None i before))
                  (term_kept_at i (omega arith) (slice_index_or given i None) (h.terms i (omega arith)))
            ];
      }

-- where the last answer is changed and keeps them
module _ (file : File) (change : Option Answer → Option Answer)
    (keeps : (said : Option Answer) → IfSome said (HasTerms file (last_goal file)) →
    IfSome (change said) (HasTerms file (last_goal file))) where
  abbrev KeepsAt : List (Option Answer) → ℕ → Type 0
  KeepsAt given i = IfSome (slice_index_or given i None) (HasTerms file (goal_at file i))

  at_last : (front : List (Option Answer)) (x : Option Answer) (i : ℕ) → length front + 1 ≡ length file.goals →
      i ≡ length front → KeepsAt (front ++ x ∷ []) i → KeepsAt (front ++ change x ∷ []) i
  at_last front x i count is h =
      let goal : goal_at file i ≡ last_goal file =
      ap (λ k. goal_at file k) (let e : i ≡ length file.goals - 1 = omega arith in e) in
      let old = ap (λ k. slice_index_or (front ++ x ∷ []) k None) is ∙ last_at front x None in
      let new = ap (λ k. slice_index_or (front ++ change x ∷ []) k None) is ∙ last_at front (change x) None in
      subst (λ (g : Goal). IfSome (slice_index_or (front ++ change x ∷ []) i None) (HasTerms file g)) (sym goal)
      (subst (λ (said : Option Answer). IfSome said (HasTerms file (last_goal file))) (sym new)
      (keeps x (subst (λ (said : Option Answer). IfSome said (HasTerms file (last_goal file))) old
      (subst (λ (g : Goal). IfSome (slice_index_or (front ++ x ∷ []) i None) (HasTerms file g)) goal h))))

  before_last : (front : List (Option Answer)) (x : Option Answer) (i : ℕ) → i < length front →
      KeepsAt (front ++ x ∷ []) i → KeepsAt (front ++ change x ∷ []) i
  before_last front x i low h =
      subst (λ (said : Option Answer). IfSome said (HasTerms file (goal_at file i)))
      (get_or_append_left front (x ∷ []) None i low ∙ sym (get_or_append_left front (change x ∷ []) None i low)) h

  changed : (front : List (Option Answer)) (x : Option Answer) → AreAnswersTo file (front ++ x ∷ []) →
      AreAnswersTo file (front ++ change x ∷ [])
  changed front x h =
      let count : length front + 1 ≡ length file.goals = sym (one_longer front x) ∙ h.count in
      record {
        count = one_longer front (change x) ∙ count;
        terms = λ i low. elim (eq-or-lt_of_le (let e : i ≤ length front = omega arith in e)) [
          | inl is ↦ at_last front x i count is (h.terms i low)
          | inr before ↦ before_last front x i before (h.terms i low)
        ];
      }

  by_ending : (xs : List (Option Answer)) → Ending xs → AreAnswersTo file xs → AreAnswersTo file (with_last change xs)
  by_ending xs empty h = h
  by_ending xs (last front x) h = subst (AreAnswersTo file) (sym (with_last-append change front x)) (changed front x h)

  pub last_changed : (given : List (Option Answer)) → AreAnswersTo file given →
      AreAnswersTo file (with_last change given)
  last_changed given h = by_ending given (ending given) h

module _ (file : File) (goal : Goal) where
  -- a certificate with one more line or step has no terms
  pub line_keeps : (l : Line) (said : Option Answer) → IfSome said (HasTerms file goal) →
      IfSome (with_line l said) (HasTerms file goal)
  line_keeps l None h = h
  line_keeps l (Some (answer.Certified constants cert)) h = tt
  line_keeps l (Some (answer.Proved conditions)) h = h
  line_keeps l (Some (answer.ZeroDenominator denominator)) h = h
  line_keeps l (Some (answer.No at left right)) h = h
  line_keeps l (Some (answer.NoneUpTo power)) h = h
  line_keeps l (Some (answer.GaveUp limit)) h = h
  line_keeps l (Some answer.Range) h = h
  line_keeps l (Some answer.Degree) h = h
  line_keeps l (Some answer.Atoms) h = h

  pub step_keeps : (s : GoalStep) (said : Option Answer) → IfSome said (HasTerms file goal) →
      IfSome (with_step s said) (HasTerms file goal)
  step_keeps s None h = h
  step_keeps s (Some (answer.Certified constants cert)) h = tt
  step_keeps s (Some (answer.Proved conditions)) h = h
  step_keeps s (Some (answer.ZeroDenominator denominator)) h = h
  step_keeps s (Some (answer.No at left right)) h = h
  step_keeps s (Some (answer.NoneUpTo power)) h = h
  step_keeps s (Some (answer.GaveUp limit)) h = h
  step_keeps s (Some answer.Range) h = h
  step_keeps s (Some answer.Degree) h = h
  step_keeps s (Some answer.Atoms) h = h
