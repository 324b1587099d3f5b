-- What the numbers and the monomials of a certificate are within, for polynomials over n atoms.
use Rattle.std.specs.Prelude.{ℕ, ◌<◌, ◌≤◌, ◌^◌, ℤ, pos, ◌≤ℤ◌, [], All}
use Rattle.std.specs.Int.RustNames.{unsigned_abs}
use Rattle.std.specs.Ordering.{nat_cmp}
use Rattle.alg_mono.specs.FiniteMaps.{Each}
use Rattle.alg_mono.specs.Mono.{Monomial}
use Rattle.alg_mono.specs.Monomials.{IsMono}
use Rattle.alg_mono.specs.Numbers.{integers}
use Rattle.alg_mono.specs.NumberedPolynomials.{Polynomial}
use Rattle.alg_mono.specs.Polynomials.{MAX, IsPolynomial}
use Rattle.alg_lines.specs.declared.cert.Cert.{Cert}
use Rattle.alg_lines.specs.declared.cert.GoalStep.{GoalStep}
use Rattle.alg_lines.specs.declared.cert.Line.{Line}

-- a number up to the greatest norm that is not negative
abbrev pub IsMagnitude : ℤ → Type 0
IsMagnitude c = (pos 0 ≤ℤ c) × (unsigned_abs c ≤ MAX)

-- a number that fits the count of lines
abbrev pub IsLineNumber : ℕ → Type 0
IsLineNumber k = k < 2 ^ 32

module _ (n : ℕ) where
  -- all atoms of the monomial are among the first n
  abbrev pub HasAtoms : Monomial → Type 0
  HasAtoms m = Each (λ k. k < n) m

  -- a polynomial over n atoms
  pub record IsOverAtoms (p : Polynomial) : Type 0 where
    pub polynomial : IsPolynomial nat_cmp integers p
    pub atoms : Each HasAtoms p

  -- a monomial over n atoms, within the limit on degrees
  pub record IsMonoWithin (m : Monomial) : Type 0 where
    pub mono : IsMono nat_cmp m
    pub atoms : HasAtoms m

  -- the numbers and monomials of a*m*p - b*q*r over d
  pub record IsWithin (a : ℤ) (m : Monomial) (b : ℤ) (q : Monomial) (d : ℤ) : Type 0 where
    pub first : IsMagnitude a
    pub first_mono : IsMonoWithin m
    pub second : unsigned_abs b ≤ MAX
    pub second_mono : IsMonoWithin q
    pub divisor : IsMagnitude d

  -- those of a line, with the numbers of the lines that it cites
  pub record IsLineWithin (l : Line) : Type 0 where
    pub within : IsWithin l.a l.m l.b l.n l.d
    pub i : IsLineNumber l.i
    pub j : IsLineNumber l.j

  -- and those of a step
  pub record IsStepWithin (s : GoalStep) : Type 0 where
    pub within : IsWithin s.a [] s.b s.n s.d
    pub j : IsLineNumber s.j

  -- a certificate with such lines and steps
  pub record IsCertWithin (cert : Cert) : Type 0 where
    pub power : cert.power ≤ 16
    pub lines : All IsLineWithin cert.lines
    pub steps : All IsStepWithin cert.steps
