-- When answers can be printed.
use Rattle.std.specs.Prelude.{◌≡◌, ◌<◌, ◌≤◌, ◌^◌, ℕ, ℤ, pos, ◌≤ℤ◌, List, length, All, Option, IfSome, unsigned_abs}
use Rattle.std.specs.Ordering.{nat_cmp}
use Rattle.alg_lines.specs.declared.answer.Answer.{Answer}
use Rattle.alg_lines.specs.declared.answer.Answer.TheVariants.{Proved, Certified, No, ZeroDenominator, NoneUpTo, GaveUp, Atoms, Range, Degree}
use Rattle.alg_lines.specs.declared.cert.Cert.{Cert}
use Rattle.alg_lines.specs.declared.cert.GoalStep.{GoalStep}
use Rattle.alg_lines.specs.declared.cert.Line.{Line}
use Rattle.alg_mono.specs.Mono.{Monomial}
use Rattle.alg_mono.specs.Monomials.{IsMono}
use Rattle.alg_terms.specs.declared.file.File.{File}
use Rattle.alg_terms.specs.declared.goals.Goal.{Goal}
use Rattle.alg_terms.specs.declared.goals.Method.{Method}
use Rattle.alg_terms.specs.declared.goals.Method.TheVariants.{ByRing, ByField, ByNsatz}
use Rattle.alg_terms.specs.Limits.{MAX_LITERAL}
use Rattle.alg_terms.specs.declared.term.Atom.{Atom}
use Rattle.alg_terms.specs.AnswerRules.{IsAnswerTerm}
use Rattle.alg_terms.specs.Members.{goal_at}
use Rattle.alg_printer.specs.Monomials.{IsOverAtoms}
use Rattle.alg_reify.specs.Table.{goal_atoms}
use Rattle.alg_printer.specs.Text.{answer_at}

-- the forms of answers that belong to a method
abbrev pub HasForm : Method → Answer → Type 0
HasForm ByRing (Proved conditions) = Unit {0}
HasForm ByRing (No at left right) = Unit {0}
HasForm ByRing Atoms = Unit {0}
HasForm ByRing Range = Unit {0}
HasForm ByRing Degree = Unit {0}
HasForm ByRing _ = ⊥
HasForm ByField (Proved conditions) = Unit {0}
HasForm ByField (No at left right) = Unit {0}
HasForm ByField (ZeroDenominator denominator) = Unit {0}
HasForm ByField Atoms = Unit {0}
HasForm ByField Range = Unit {0}
HasForm ByField Degree = Unit {0}
HasForm ByField _ = ⊥
HasForm (ByNsatz uses power limit) (Certified constants cert) = Unit {0}
HasForm (ByNsatz uses power limit) (NoneUpTo greatest) = Unit {0}
HasForm (ByNsatz uses power limit) (GaveUp moves) = Unit {0}
HasForm (ByNsatz uses power limit) Atoms = Unit {0}
HasForm (ByNsatz uses power limit) Range = Unit {0}
HasForm (ByNsatz uses power limit) Degree = Unit {0}
HasForm (ByNsatz uses power limit) _ = ⊥

-- a number that is printed without a sign
abbrev pub IsNumeral : ℤ → Type 0
IsNumeral n = (pos 0 ≤ℤ n) × (n ≤ℤ MAX_LITERAL)

-- a number that may have a sign
abbrev pub IsInteger : ℤ → Type 0
IsInteger n = unsigned_abs n < 2 ^ 127

-- the number of a line, a power, or a count of moves
abbrev pub IsCount : ℕ → Type 0
IsCount n = n ≤ 4294967295

-- a monomial over these atoms, within the limits
pub record IsMonomialOver (atoms : List Atom) (m : Monomial) : Type 0 where
  pub canonical : IsMono nat_cmp m
  pub over : IsOverAtoms atoms m

-- a line whose monomials are over these atoms and whose numbers can be printed
pub record IsLineOver (atoms : List Atom) (line : Line) : Type 0 where
  pub a : IsNumeral line.a
  pub m : IsMonomialOver atoms line.m
  pub i : IsCount line.i
  pub b : IsInteger line.b
  pub n : IsMonomialOver atoms line.n
  pub j : IsCount line.j
  pub d : IsNumeral line.d

-- such a step
pub record IsStepOver (atoms : List Atom) (step : GoalStep) : Type 0 where
  pub a : IsNumeral step.a
  pub b : IsInteger step.b
  pub n : IsMonomialOver atoms step.n
  pub j : IsCount step.j
  pub d : IsNumeral step.d

-- a certificate with such lines and steps
pub record IsCertOver (atoms : List Atom) (cert : Cert) : Type 0 where
  pub power : IsCount cert.power
  pub lines : All (IsLineOver atoms) cert.lines
  pub steps : All (IsStepOver atoms) cert.steps

-- the terms, monomials and numbers of an answer can be printed
abbrev pub HasParts : File → Goal → Answer → Type 0
HasParts file goal (Proved conditions) = All (IsAnswerTerm file goal) conditions
HasParts file goal (Certified constants cert) = All IsNumeral constants × IsCertOver (goal_atoms file goal) cert
HasParts file goal (No at left right) =
    IsMonomialOver (goal_atoms file goal) at × IsInteger left × IsInteger right
HasParts file goal (ZeroDenominator denominator) = IsAnswerTerm file goal denominator
HasParts file goal (NoneUpTo power) = IsCount power
HasParts file goal (GaveUp limit) = IsCount limit
HasParts file goal _ = Unit {0}

-- an answer that can be printed below a goal
pub record IsPrintable (file : File) (goal : Goal) (answer : Answer) : Type 0 where
  pub form : HasForm goal.method answer
  pub parts : HasParts file goal answer

-- one optional answer for each goal, and each can be printed below its goal
pub record ArePrintable (file : File) (answers : List (Option Answer)) : Type 0 where
  pub count : length answers ≡ length file.goals
  pub each : (i : ℕ) → i < length file.goals → IfSome (answer_at answers i) (IsPrintable file (goal_at file i))
