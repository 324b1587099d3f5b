-- What a certificate comes to when it is tried line by line and step by step.
use Rattle.std.specs.Prelude.{◌≡◌, ◌≢◌, ℕ, ◌+◌, ◌≤◌, List, [], ◌∷◌, ◌++◌, pos, ◌≤ℤ◌, length}
use Rattle.alg_mono.specs.Outcomes.{Outcome, combine_outcome, power_outcome}
use Rattle.alg_poly.specs.Divisors.{IsDivisible}
use Rattle.alg_mono.specs.NumberedPolynomials.{Polynomial, power_of}
use Rattle.alg_lines.specs.Lines.{line_at, line_combination, step_combination, IsLineOf, IsStepOf}
use Rattle.alg_lines.specs.declared.cert.Line.{Line}
use Rattle.alg_lines.specs.declared.cert.GoalStep.{GoalStep}
use Rattle.alg_lines.specs.declared.cert.Cert.{Cert}

-- k is the number of one of these lines
abbrev pub IsOneOf : List Polynomial → ℕ → Type 0
IsOneOf lines k = (1 ≤ k) × (k ≤ length lines)

-- the line cites lines before it, d is at least 1, the combination breaks no rule, and d divides it
pub record IsGoodLine (lines : List Polynomial) (l : Line) : Type 0 where
  pub first : IsOneOf lines l.i
  pub second : IsOneOf lines l.j
  pub fine : combine_outcome l.a l.m (line_at lines l.i) l.b l.n (line_at lines l.j) ≡ Outcome.Fine
  pub exact : IsDivisible l.d (line_combination lines l)

-- the step cites a line, a and d are at least 1, the combination breaks no rule, and d divides it
pub record IsGoodStep (lines : List Polynomial) (s : GoalStep) (before : Polynomial) : Type 0 where
  pub line : IsOneOf lines s.j
  pub factor : pos 1 ≤ℤ s.a
  pub fine : combine_outcome s.a [] before s.b s.n (line_at lines s.j) ≡ Outcome.Fine
  pub exact : IsDivisible s.d (step_combination lines s before)

-- the lines are good, and `all` are the first ones and those that they make in turn
abbrev pub AreLines : List Polynomial → List Line → List Polynomial → Type 0
AreLines lines [] all = all ≡ lines
AreLines lines (l ∷ ls) all =
    (new : Polynomial) × (IsGoodLine lines l × IsLineOf lines l new) × AreLines (lines ++ new ∷ []) ls all

-- the steps are good, and lead from the remainder g to h
abbrev pub AreSteps : List Polynomial → Polynomial → List GoalStep → Polynomial → Type 0
AreSteps lines g [] h = h ≡ g
AreSteps lines g (s ∷ ss) h =
    (after : Polynomial) × (IsGoodStep lines s g × IsStepOf lines s g after) × AreSteps lines after ss h

pub data Acceptance : Type 0 where
  Good : Acceptance
  Bad : (at : ℕ) → Acceptance
  Range : Acceptance
  Degree : Acceptance

module _ (hyps : List Polynomial) (g : Polynomial) (cert : Cert) where
  -- the power is from 1 to 16
  abbrev pub HasPower : Type 0
  HasPower = (1 ≤ cert.power) × (cert.power ≤ 16)

  -- the power is one, and g to the power breaks no rule
  abbrev pub Begins : Type 0
  Begins = HasPower × (power_outcome g cert.power ≡ Outcome.Fine)

  -- these are the lines, and the steps lead from g to the power to h
  abbrev pub Leads : List Polynomial → List GoalStep → Polynomial → Type 0
  Leads all steps h = AreLines hyps cert.lines all × AreSteps all (power_of g cert.power) steps h

  -- good, or the first breach: the power is 0, then the lines are counted, then the steps
  pub data Accepting : Acceptance → Type 0 where
    bad_power : (HasPower → ⊥) → Accepting (Bad 0)
    too_great : HasPower → power_outcome g cert.power ≡ Outcome.Range → Accepting Range
    too_high : HasPower → power_outcome g cert.power ≡ Outcome.Degree → Accepting Degree
    bad_line : (before after : List Line) (l : Line) (lines : List Polynomial) → Begins →
        cert.lines ≡ before ++ l ∷ after → AreLines hyps before lines → (IsGoodLine lines l → ⊥) →
        Accepting (Bad (length before + 1))
    bad_step : (before after : List GoalStep) (s : GoalStep) (all : List Polynomial) (h : Polynomial) → Begins →
        cert.steps ≡ before ++ s ∷ after → Leads all before h → (IsGoodStep all s h → ⊥) →
        Accepting (Bad (length cert.lines + length before + 1))
    not_zero : (all : List Polynomial) (h : Polynomial) → Begins → Leads all cert.steps h → h ≢ [] →
        Accepting (Bad (length cert.lines + length cert.steps + 1))
    good : (all : List Polynomial) → Begins → Leads all cert.steps [] → Accepting Good

  abbrev pub IsGood : Type 0
  IsGood = Accepting Good
