-- Two polynomials combined so that their leads cancel, over the content.
use Rattle.std.specs.Prelude.{◌/◌, cond, nat_lt, [], ℤ, pos, negsuc}
use lib.IntN.{neg_ℤ}
use Rattle.std.specs.Int.RustNames.{unsigned_abs, int_div}
use Rattle.std.specs.Ordering.{nat_cmp}
use Rattle.alg_mono.specs.Monomials.{MAX_DEGREE, degree, lcm, mono_over}
use Rattle.alg_mono.specs.Outcomes.{Outcome, combine_outcome}
use Rattle.alg_mono.specs.Mono.{Monomial}
use Rattle.alg_mono.specs.NumberedPolynomials.{Polynomial}
use Rattle.alg_lines.specs.Lines.{combination}
use Rattle.alg_groebner.specs.Leads.{lead, leading}
use Rattle.alg_groebner.specs.Divisors.{common, content, over_number}
use Rattle.alg_groebner.specs.declared.cancel.Cancelled.{Cancelled}

-- the other sign where v is negative
abbrev pub signed_as : ℤ → ℤ → ℤ
signed_as (pos n) b = b
signed_as (negsuc n) b = neg_ℤ b

-- a, for leading coefficients u and v with the greatest common divisor e: the magnitude of v over e
abbrev pub left_factor : ℤ → ℤ → ℤ
left_factor u v = pos (unsigned_abs v / common u v)

-- b: u over e, with the other sign where v is negative
abbrev pub right_factor : ℤ → ℤ → ℤ
right_factor u v = signed_as v (int_div u (pos (common u v)))

module _ (m : Monomial) (p : Polynomial) (n : Monomial) (q : Polynomial) where
  -- a*m*p - b*n*q, where the leads go if n*q has the lead of m*p
  abbrev pub crossed : Polynomial
  crossed = combination (left_factor (leading p) (leading q)) m p (right_factor (leading p) (leading q)) n q

  -- the same over its content d, with a, b and d
  unfoldable pub cancelled : Cancelled
  cancelled = record {
    a = left_factor (leading p) (leading q);
    b = right_factor (leading p) (leading q);
    d = pos (content crossed);
    poly = over_number (pos (content crossed)) crossed;
  }

  -- which rule on norms and degrees it breaks
  unfoldable pub cancel_outcome : Outcome
  cancel_outcome = combine_outcome (left_factor (leading p) (leading q)) m p (right_factor (leading p) (leading q)) n q

-- the monomial that takes the lead of q to that of p
abbrev pub quotient : Polynomial → Polynomial → Monomial
quotient p q = mono_over nat_cmp (lead p) (lead q)

-- the least common multiple of the leads
abbrev pub lead_lcm : Polynomial → Polynomial → Monomial
lead_lcm p q = lcm nat_cmp (lead p) (lead q)

-- p reduced by q
abbrev pub reduced : Polynomial → Polynomial → Cancelled
reduced p q = cancelled [] p (quotient p q) q

abbrev pub reduce_outcome : Polynomial → Polynomial → Outcome
reduce_outcome p q = cancel_outcome [] p (quotient p q) q

-- m and n of the S-polynomial of p and q: the least common multiple over each lead
abbrev pub left_lift : Polynomial → Polynomial → Monomial
left_lift p q = mono_over nat_cmp (lead_lcm p q) (lead p)

abbrev pub right_lift : Polynomial → Polynomial → Monomial
right_lift p q = mono_over nat_cmp (lead_lcm p q) (lead q)

-- the S-polynomial of p and q
abbrev pub s_polynomial : Polynomial → Polynomial → Cancelled
s_polynomial p q = cancelled (left_lift p q) p (right_lift p q) q

-- which rule it breaks: that on degrees wherever the least common multiple does
abbrev pub s_outcome : Polynomial → Polynomial → Outcome
s_outcome p q =
    cond (nat_lt MAX_DEGREE (degree (lead_lcm p q))) Outcome.Degree
    (cancel_outcome (left_lift p q) p (right_lift p q) q)
