-- What a line and a step of a certificate mean.
use Rattle.std.specs.Prelude.{◌≡◌, ℕ, ℤ, List, [], ◌∷◌, slice_index_or}
use Rattle.std.specs.Ordering.{nat_cmp}
use Rattle.alg_mono.specs.Mono.{Monomial}
use Rattle.alg_mono.specs.Numbers.{integers}
use Rattle.alg_mono.specs.Polynomials.{IsPolynomial}
use Rattle.alg_mono.specs.NumberedPolynomials.{Polynomial, multiple_of, difference_of}
use Rattle.alg_lines.specs.declared.cert.Line.{Line}
use Rattle.alg_lines.specs.declared.cert.GoalStep.{GoalStep}

-- line number k, from 1, and zero where there is none
abbrev pub line_at : List Polynomial → ℕ → Polynomial
line_at lines k = slice_index_or ([] ∷ lines) k []

-- a*m*p - b*n*q
abbrev pub combination : ℤ → Monomial → Polynomial → ℤ → Monomial → Polynomial → Polynomial
combination a m p b n q = difference_of (multiple_of a m p) (multiple_of b n q)

-- a*m*L_i - b*n*L_j
abbrev pub line_combination : List Polynomial → Line → Polynomial
line_combination lines l = combination l.a l.m (line_at lines l.i) l.b l.n (line_at lines l.j)

-- a*G - b*n*L_j, where G is the remainder before the step
abbrev pub step_combination : List Polynomial → GoalStep → Polynomial → Polynomial
step_combination lines s before = combination s.a [] before s.b s.n (line_at lines s.j)

-- L, the new line, is a polynomial, and d*L is a*m*L_i - b*n*L_j
abbrev pub IsLineOf : List Polynomial → Line → Polynomial → Type 0
IsLineOf lines l new = IsPolynomial nat_cmp integers new × (multiple_of l.d [] new ≡ line_combination lines l)

-- H, the remainder after the step, is a polynomial, and d*H is a*G - b*n*L_j, where G is the one before
abbrev pub IsStepOf : List Polynomial → GoalStep → Polynomial → Polynomial → Type 0
IsStepOf lines s before after =
    IsPolynomial nat_cmp integers after × (multiple_of s.d [] after ≡ step_combination lines s before)
