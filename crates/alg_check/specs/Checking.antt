-- What trying a certificate answers, and what its parts do.
use Rattle.std.specs.Prelude.{◌≡◌, ℕ, ℤ, ◌+◌, List, [], ◌∷◌, ◌++◌, Option, Some, None, Result, Ok, Err, length}
use Rattle.alg_mono.specs.Outcomes.{Outcome}
use Rattle.alg_mono.specs.Refusals.{RefusesWith}
use Rattle.alg_mono.specs.declared.ends.Overrun.{Overrun}
use Rattle.std.specs.Ordering.{nat_cmp}
use Rattle.alg_mono.specs.Numbers.{integers}
use Rattle.alg_mono.specs.Polynomials.{IsPolynomial}
use Rattle.alg_mono.specs.NumberedPolynomials.{Polynomial, multiple_of}
use Rattle.alg_poly.specs.Divisors.{IsDivisible}
use Rattle.alg_lines.specs.declared.cert.Line.{Line}
use Rattle.alg_lines.specs.declared.cert.GoalStep.{GoalStep}
use Rattle.alg_lines.specs.declared.cert.Cert.{Cert}
use Rattle.alg_lines.specs.Lines.{IsLineOf, IsStepOf}
use Rattle.alg_lines.specs.Accepting.{IsGoodLine, IsGoodStep, AreLines, AreSteps, Acceptance, Accepting, Good, Bad, Range, Degree}
use Rattle.alg_check.specs.declared.certificate.CertAnswer.{CertAnswer}
use Rattle.alg_check.specs.declared.certificate.Followed.{Followed}

-- an answer as the acceptance that it is
abbrev pub acceptance_of : CertAnswer → Acceptance
acceptance_of CertAnswer.Good = Good
acceptance_of (CertAnswer.Bad at) = Bad at

-- a refusal is the acceptance of its name; want of memory says nothing
abbrev pub Refuses : List Polynomial → Polynomial → Cert → Overrun → Type 0
Refuses hyps g cert Overrun.Range = Accepting hyps g cert Range
Refuses hyps g cert Overrun.Degree = Accepting hyps g cert Degree
Refuses hyps g cert Overrun.NoMemory = Unit {0}

-- the factor of a polynomial, and any number where the polynomial is zero
abbrev pub IsFactor : ℤ → Polynomial → ℤ → Type 0
IsFactor c [] a = Unit {0}
IsFactor c (e ∷ p) a = a ≡ c

-- the sum is made where no rule is broken, and else the broken rule is told
abbrev pub Makes : Outcome → Polynomial → Result Polynomial Overrun → Type 0
Makes outcome sum (Ok p) = (p ≡ sum) × (outcome ≡ Outcome.Fine)
Makes outcome sum (Err e) = RefusesWith e outcome

-- the polynomial that d times is the sum, or none where making the sum breaks a rule or d does not divide it
abbrev pub IsQuotient : Outcome → Polynomial → ℤ → Option Polynomial → Type 0
IsQuotient outcome sum d (Some q) =
    (outcome ≡ Outcome.Fine) × IsDivisible d sum × IsPolynomial nat_cmp integers q × (multiple_of d [] q ≡ sum)
IsQuotient outcome sum d None = outcome ≡ Outcome.Fine → IsDivisible d sum → ⊥

-- the polynomial that a good line makes, or none where the line is not good
abbrev pub IsNextLine : List Polynomial → Line → Option Polynomial → Type 0
IsNextLine lines l (Some new) = IsGoodLine lines l × IsLineOf lines l new
IsNextLine lines l None = IsGoodLine lines l → ⊥

-- the remainder after a good step, or none where the step is not good
abbrev pub IsNextRemainder : List Polynomial → Polynomial → GoalStep → Option Polynomial → Type 0
IsNextRemainder lines before s (Some after) = IsGoodStep lines s before × IsStepOf lines s before after
IsNextRemainder lines before s None = IsGoodStep lines s before → ⊥

-- line number k of the certificate is the first that is not good
pub record BreaksAtLine (hyps : List Polynomial) (lines : List Line) (k : ℕ) : Type 0 where
  pub before : List Line
  pub line : Line
  pub after : List Line
  pub made : List Polynomial
  pub split : lines ≡ before ++ line ∷ after
  pub good : AreLines hyps before made
  pub bad : IsGoodLine made line → ⊥
  pub number : k ≡ length before + 1

-- step number k behind n lines is the first that is not good
pub record BreaksAtStep (all : List Polynomial) (first : Polynomial) (steps : List GoalStep) (n k : ℕ) : Type 0 where
  pub before : List GoalStep
  pub step : GoalStep
  pub after : List GoalStep
  pub remainder : Polynomial
  pub split : steps ≡ before ++ step ∷ after
  pub good : AreSteps all first before remainder
  pub bad : IsGoodStep all step remainder → ⊥
  pub number : k ≡ n + length before + 1

-- all lines are good and make these, or the first that is not good
abbrev pub FollowsLines : List Polynomial → List Line → List Polynomial → Option ℕ → Type 0
FollowsLines hyps lines made None = AreLines hyps lines (hyps ++ made)
FollowsLines hyps lines made (Some k) = BreaksAtLine hyps lines k

-- all steps are good and lead to this remainder, or the first that is not good
abbrev pub FollowsSteps : List Polynomial → Polynomial → List GoalStep → ℕ → Followed → Type 0
FollowsSteps all first steps n (Followed.To last) = AreSteps all first steps last
FollowsSteps all first steps n (Followed.Breach k) = BreaksAtStep all first steps n k
