-- A certificate has one acceptance.
use Rattle.std.specs.Prelude.{◌≡◌, ◌≢◌, ℕ, ◌+◌, List, [], ◌∷◌, ◌++◌, pos, ℤ, ◌≤ℤ◌, length}
use Rattle.std.proofs.Common.{refl, sym, ap, subst, ◌∙◌, arith}
use Rattle.std.proofs.lemmas.Int.{ints}
use Rattle.std.specs.Ordering.{nat_cmp}
use Rattle.alg_mono.specs.Numbers.{integers}
use Rattle.alg_mono.specs.NumberedPolynomials.{Polynomial, multiple_of, power_of}
use Rattle.alg_mono.specs.Outcomes.{Outcome, power_outcome}
use Rattle.alg_mono.specs.Polynomials.{IsPolynomial}
use Rattle.alg_poly.proofs.Cancelled.{times_same}
use Rattle.alg_poly.proofs.Zeros.{multiple_is_times}
use Rattle.alg_lines.specs.Lines.{IsLineOf, IsStepOf}
use Rattle.alg_lines.specs.declared.cert.Line.{Line}
use Rattle.alg_lines.specs.declared.cert.GoalStep.{GoalStep}
use Rattle.alg_lines.specs.declared.cert.Cert.{Cert}
use Rattle.alg_lines.specs.Accepting.{IsGoodLine, IsGoodStep, AreLines, AreSteps, HasPower, Begins, Acceptance, Accepting, Good, Bad, Range, Degree, bad_power, too_great, too_high, bad_line, bad_step, not_zero, good}
use Rattle.alg_check.proofs.Chains.{Chain, CanTake, IsOnce, chain_once, each_taken, first_place}

-- what d times is one polynomial is one
one_quotient : (d : ℤ) (sum p q : Polynomial) → pos 1 ≤ℤ d → IsPolynomial nat_cmp integers p →
    multiple_of d [] p ≡ sum →
    IsPolynomial nat_cmp integers q → multiple_of d [] q ≡ sum → p ≡ q
one_quotient d sum p q low ps pe qs qe =
    let some : d ≢ pos 0 = λ e. omega (arith, ints) in
    times_same d p q low (sym (multiple_is_times d p some ps) ∙ pe ∙ sym qe ∙ multiple_is_times d q some qs)

-- ---- lines and steps as chains
LineLeads : List Polynomial → Line → List Polynomial → Type 0
LineLeads lines l next = (new : Polynomial) × (IsGoodLine lines l × IsLineOf lines l new) × (next ≡ lines ++ new ∷ [])

StepLeads : List Polynomial → Polynomial → GoalStep → Polynomial → Type 0
StepLeads all g s after = IsGoodStep all s g × IsStepOf all s g after

lines_once : IsOnce LineLeads
unfolding LineLeads
lines_once lines l t u (a, m, e) (b, n, f) =
    let same = one_quotient l.d _ a b (m.0.exact.0) m.1.0 m.1.1 n.1.0 n.1.1 in
    e ∙ (λ i. lines ++ same i ∷ []) ∙ sym f

steps_once : (all : List Polynomial) → IsOnce (StepLeads all)
unfolding StepLeads
steps_once all g s t u (m, e) (n, f) = one_quotient s.d _ t u (m.exact.0) e.0 e.1 f.0 f.1

lines_chain : (lines : List Polynomial) (ls : List Line) (all : List Polynomial) → AreLines lines ls all →
    Chain LineLeads lines ls all
unfolding LineLeads
lines_chain lines [] all h = h
lines_chain lines (l ∷ ls) all h =
    (lines ++ h.0 ∷ [], (h.0, h.1, refl), lines_chain (lines ++ h.0 ∷ []) ls all h.2)

steps_chain : (all : List Polynomial) (g : Polynomial) (ss : List GoalStep) (h : Polynomial) → AreSteps all g ss h →
    Chain (StepLeads all) g ss h
unfolding StepLeads
steps_chain all g [] h a = a
steps_chain all g (s ∷ ss) h a = (a.0, a.1, steps_chain all a.0 ss h a.2)

no_line : (lines : List Polynomial) (l : Line) → (IsGoodLine lines l → ⊥) → CanTake LineLeads lines l → ⊥
unfolding LineLeads
no_line lines l never t = never t.1.1.0

no_step : (all : List Polynomial) (g : Polynomial) (s : GoalStep) → (IsGoodStep all s g → ⊥) →
    CanTake (StepLeads all) g s → ⊥
unfolding StepLeads
no_step all g s never t = never t.1.0

module _ (hyps : List Polynomial) (g : Polynomial) (cert : Cert) where
  -- ---- what an acceptance is by: the power, a line, or what stands behind the lines
  data ByPower : Acceptance → Type 0 where
    none : (HasPower hyps g cert → ⊥) → ByPower (Bad 0)
    great : HasPower hyps g cert → power_outcome g cert.power ≡ Outcome.Range → ByPower Range
    high : HasPower hyps g cert → power_outcome g cert.power ≡ Outcome.Degree → ByPower Degree

  record ByLine (k : ℕ) : Type 0 where
    before : List Line
    after : List Line
    line : Line
    lines : List Polynomial
    split : cert.lines ≡ before ++ line ∷ after
    made : AreLines hyps before lines
    wrong : IsGoodLine lines line → ⊥
    number : k ≡ length before + 1

  record ByStep (all : List Polynomial) (k : ℕ) : Type 0 where
    before : List GoalStep
    after : List GoalStep
    step : GoalStep
    rest : Polynomial
    split : cert.steps ≡ before ++ step ∷ after
    made : AreSteps all (power_of g cert.power) before rest
    wrong : IsGoodStep all step rest → ⊥
    number : k ≡ length cert.lines + length before + 1

  data ByEnd (all : List Polynomial) : Acceptance → Type 0 where
    step : (k : ℕ) → ByStep all k → ByEnd all (Bad k)
    left : (h : Polynomial) → AreSteps all (power_of g cert.power) cert.steps h → h ≢ [] →
        ByEnd all (Bad (length cert.lines + length cert.steps + 1))
    zero : AreSteps all (power_of g cert.power) cert.steps [] → ByEnd all Good

  data By : Acceptance → Type 0 where
    power : (a : Acceptance) → ByPower a → By a
    line : (k : ℕ) → Begins hyps g cert → ByLine k → By (Bad k)
    end : (a : Acceptance) → Begins hyps g cert → (all : List Polynomial) → AreLines hyps cert.lines all → ByEnd all a →
        By a

  by : (a : Acceptance) → Accepting hyps g cert a → By a
  by _ (bad_power h) = power (Bad 0) (none h)
  by _ (too_great h e) = power Range (great h e)
  by _ (too_high h e) = power Degree (high h e)
  by _ (bad_line before after l lines begins split made wrong) = line (length before + 1) begins (record {
    before = before;
    after = after;
    line = l;
    lines = lines;
    split = split;
    made = made;
    wrong = wrong;
    number = refl;
  })
  by _ (bad_step before after s all h begins split leads wrong) =
      end (Bad (length cert.lines + length before + 1)) begins all leads.0 (step (length cert.lines + length before + 1)
      (record {
        before = before;
        after = after;
        step = s;
        rest = h;
        split = split;
        made = leads.1;
        wrong = wrong;
        number = refl;
      }))
  by _ (not_zero all h begins leads some) =
      end (Bad (length cert.lines + length cert.steps + 1)) begins all leads.0 (left h leads.1 some)
  by _ (good all begins leads) = end Good begins all leads.0 (zero leads.1)

  -- ---- each of them once
  apart : {A : Type 0} {x y : Outcome} → power_outcome g cert.power ≡ x → power_outcome g cert.power ≡ y →
      (x ≡ y → ⊥) → A
  apart e f differ = absurd (differ (sym e ∙ f))

  by_power : (a b : Acceptance) → ByPower a → ByPower b → a ≡ b
  by_power _ _ (none h) (none k) = refl
  by_power _ _ (none h) (great k f) = absurd (h k)
  by_power _ _ (none h) (high k f) = absurd (h k)
  by_power _ _ (great h e) (none k) = absurd (k h)
  by_power _ _ (great h e) (great k f) = refl
  by_power _ _ (great h e) (high k f) = apart e f (λ z. cc)
  by_power _ _ (high h e) (none k) = absurd (k h)
  by_power _ _ (high h e) (great k f) = apart e f (λ z. cc)
  by_power _ _ (high h e) (high k f) = refl

  not_begun : (a : Acceptance) → ByPower a → Begins hyps g cert → ⊥
  not_begun _ (none h) b = h b.0
  not_begun _ (great h e) b = apart e b.1 (λ z. cc)
  not_begun _ (high h e) b = apart e b.1 (λ z. cc)

  by_line : (k n : ℕ) → ByLine k → ByLine n → k ≡ n
  by_line k n a b =
      let same = first_place LineLeads lines_once hyps a.before b.before a.line b.line a.after b.after a.lines b.lines
      (sym a.split ∙ b.split) (lines_chain hyps a.before a.lines a.made) (lines_chain hyps b.before b.lines b.made)
      (no_line a.lines a.line a.wrong) (no_line b.lines b.line b.wrong) in
      a.number ∙ (λ i. same i + 1) ∙ sym b.number

  no_bad_line : (k : ℕ) → ByLine k → (all : List Polynomial) → AreLines hyps cert.lines all → ⊥
  no_bad_line k a all made =
      no_line a.lines a.line a.wrong
      (each_taken LineLeads lines_once hyps a.before a.line a.after all a.lines
      (subst (λ (ls : List Line). Chain LineLeads hyps ls all) a.split (lines_chain hyps cert.lines all made))
      (lines_chain hyps a.before a.lines a.made))

  module _ (all : List Polynomial) where
    abbrev first : Polynomial
    first = power_of g cert.power

    by_step : (k n : ℕ) → ByStep all k → ByStep all n → k ≡ n
    by_step k n a b =
        let same = first_place (StepLeads all) (steps_once all) first a.before b.before a.step b.step a.after b.after
        a.rest b.rest (sym a.split ∙ b.split) (steps_chain all first a.before a.rest a.made)
        (steps_chain all first b.before b.rest b.made) (no_step all a.rest a.step a.wrong)
        (no_step all b.rest b.step b.wrong) in
        a.number ∙ (λ i. length cert.lines + same i + 1) ∙ sym b.number

    no_bad_step : (k : ℕ) → ByStep all k → (h : Polynomial) → AreSteps all first cert.steps h → ⊥
    no_bad_step k a h made =
        no_step all a.rest a.step a.wrong
        (each_taken (StepLeads all) (steps_once all) first a.before a.step a.after h a.rest
        (subst (λ (ss : List GoalStep). Chain (StepLeads all) first ss h) a.split
        (steps_chain all first cert.steps h made))
        (steps_chain all first a.before a.rest a.made))

    same_end : (h k : Polynomial) → AreSteps all first cert.steps h → AreSteps all first cert.steps k → h ≡ k
    same_end h k a b =
        chain_once (StepLeads all) (steps_once all) first cert.steps h k (steps_chain all first cert.steps h a)
        (steps_chain all first cert.steps k b)

    by_end : (a b : Acceptance) → ByEnd all a → ByEnd all b → a ≡ b
    by_end _ _ (step k a) (step n b) = ap Bad (by_step k n a b)
    by_end _ _ (step k a) (left h b some) = absurd (no_bad_step k a h b)
    by_end _ _ (step k a) (zero b) = absurd (no_bad_step k a [] b)
    by_end _ _ (left h a some) (step n b) = absurd (no_bad_step n b h a)
    by_end _ _ (left h a some) (left k b other) = refl
    by_end _ _ (left h a some) (zero b) = absurd (some (same_end h [] a b))
    by_end _ _ (zero a) (step n b) = absurd (no_bad_step n b [] a)
    by_end _ _ (zero a) (left k b other) = absurd (other (same_end k [] b a))
    by_end _ _ (zero a) (zero b) = refl

  one_by : (a b : Acceptance) → By a → By b → a ≡ b
  one_by a b (power _ p) (power _ q) = by_power a b p q
  one_by a _ (power _ p) (line n begins q) = absurd (not_begun a p begins)
  one_by a b (power _ p) (end _ begins all lines q) = absurd (not_begun a p begins)
  one_by _ b (line k begins p) (power _ q) = absurd (not_begun b q begins)
  one_by _ _ (line k begins p) (line n other q) = ap Bad (by_line k n p q)
  one_by _ b (line k begins p) (end _ other all lines q) = absurd (no_bad_line k p all lines)
  one_by a b (end _ begins all lines p) (power _ q) = absurd (not_begun b q begins)
  one_by a _ (end _ begins all lines p) (line n other q) = absurd (no_bad_line n q all lines)
  one_by a b (end _ begins all lines p) (end _ other others made q) =
      let same = chain_once LineLeads lines_once hyps cert.lines others all (lines_chain hyps cert.lines others made)
      (lines_chain hyps cert.lines all lines) in
      by_end all a b p (subst (λ (ls : List Polynomial). ByEnd ls b) same q)

  pub one_acceptance : (a b : Acceptance) → Accepting hyps g cert a → Accepting hyps g cert b → a ≡ b
  one_acceptance a b p q = one_by a b (by a p) (by b q)
