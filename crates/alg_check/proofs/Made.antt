-- The polynomial that a line makes, and the remainder after a step, as quotients.
use Rattle.std.specs.Prelude.{◌≡◌, List, [], Option, Some, None, ℤ, pos, ◌≤ℤ◌, Result, Ok, Err, IfOk, IfErr}
use Rattle.std.proofs.Common.{sym, subst, ◌∙◌}
use Rattle.alg_mono.specs.Mono.{Monomial}
use Rattle.alg_mono.specs.Outcomes.{Outcome, combine_outcome}
use Rattle.alg_mono.specs.Refusals.{RefusesWith}
use Rattle.alg_mono.specs.declared.ends.Overrun.{Overrun}
use Rattle.alg_mono.specs.NumberedPolynomials.{Polynomial}
use Rattle.alg_lines.specs.Lines.{line_at, combination, line_combination, step_combination}
use Rattle.alg_lines.specs.declared.cert.Line.{Line}
use Rattle.alg_lines.specs.declared.cert.GoalStep.{GoalStep}
use Rattle.alg_lines.specs.Accepting.{IsOneOf}
use Rattle.alg_check.specs.Checking.{IsFactor, Makes, IsQuotient, IsNextLine, IsNextRemainder}
use Rattle.alg_check.proofs.Factors.{outcome_same, combination_same}

pub if_ok : {A E : Type 0} {P Q : A → Type 0} (r : Result A E) → ((x : A) → P x → Q x) → IfOk r P → IfOk r Q
if_ok (Ok x) f h = f x h
if_ok (Err e) f h = tt

-- a combination with any factors of zero
pub makes_any : (a c : ℤ) (m : Monomial) (p : Polynomial) (b d : ℤ) (n : Monomial) (q : Polynomial) →
    IsFactor a p c → IsFactor b q d → (r : Result Polynomial Overrun) →
    IfOk r (λ x. x ≡ combination c m p d n q) → IfOk r (λ x. combine_outcome c m p d n q ≡ Outcome.Fine) →
    IfErr r (λ e. RefusesWith e (combine_outcome c m p d n q)) →
    Makes (combine_outcome a m p b n q) (combination a m p b n q) r
makes_any a c m p b d n q left right (Ok x) is fine told =
    (is ∙ combination_same a c m p b d n q left right, sym (outcome_same a c m p b d n q left right) ∙ fine)
makes_any a c m p b d n q left right (Err e) is fine told =
    subst (RefusesWith e) (outcome_same a c m p b d n q left right) told

module _ (lines : List Polynomial) (l : Line) (first : IsOneOf lines l.i) (second : IsOneOf lines l.j) where
  as_line : (o : Option Polynomial) →
      IsQuotient (combine_outcome l.a l.m (line_at lines l.i) l.b l.n (line_at lines l.j))
      (line_combination lines l) l.d o →
      IsNextLine lines l o
  as_line (Some new) h = (record { first = first; second = second; fine = h.0; exact = h.1 }, (h.2, h.3))
  as_line None h = λ g. h g.fine g.exact

  pub next_line_is : (p q : Polynomial) → p ≡ line_at lines l.i → q ≡ line_at lines l.j → (o : Option Polynomial) →
      IsQuotient (combine_outcome l.a l.m p l.b l.n q) (combination l.a l.m p l.b l.n q) l.d o → IsNextLine lines l o
  next_line_is p q e f o h =
      as_line o (subst (λ (x : Polynomial). IsQuotient (combine_outcome l.a l.m (line_at lines l.i) l.b l.n x)
      (combination l.a l.m (line_at lines l.i) l.b l.n x) l.d o) f
      (subst (λ (x : Polynomial). IsQuotient (combine_outcome l.a l.m x l.b l.n q) (combination l.a l.m x l.b l.n q)
      l.d o) e h))

module _ (lines : List Polynomial) (before : Polynomial) (s : GoalStep) (line : IsOneOf lines s.j)
    (factor : pos 1 ≤ℤ s.a) where
  as_remainder : (o : Option Polynomial) →
      IsQuotient (combine_outcome s.a [] before s.b s.n (line_at lines s.j)) (step_combination lines s before) s.d o →
      IsNextRemainder lines before s o
  as_remainder (Some after) h = (record { line = line; factor = factor; fine = h.0; exact = h.1 }, (h.2, h.3))
  as_remainder None h = λ g. h g.fine g.exact

  pub next_remainder_is : (one : Monomial) (q : Polynomial) → one ≡ [] → q ≡ line_at lines s.j →
      (o : Option Polynomial) →
      IsQuotient (combine_outcome s.a one before s.b s.n q) (combination s.a one before s.b s.n q) s.d o →
      IsNextRemainder lines before s o
  next_remainder_is one q e f o h =
      as_remainder o (subst (λ (x : Polynomial). IsQuotient (combine_outcome s.a [] before s.b s.n x)
      (combination s.a [] before s.b s.n x) s.d o) f
      (subst (λ (m : Monomial). IsQuotient (combine_outcome s.a m before s.b s.n q) (combination s.a m before s.b s.n q)
      s.d o) e h))
