-- Each line and each step that the machine makes is one that a good certificate may have.
use Rattle.std.specs.Prelude.{◌≡◌, ◌≢◌, ℕ, zero, suc, ◌*◌, ◌/◌, ◌<◌, ◌≤◌, List, [], ◌∷◌, ◌++◌, ℤ, pos, ◌*ℤ◌, ◌≤ℤ◌}
use Rattle.std.proofs.Common.{sym, subst, arith}
use Rattle.std.specs.Ordering.{nat_cmp}
use Rattle.std.specs.Int.RustNames.{unsigned_abs}
use Rattle.std.proofs.lemmas.Int.{ints}
use Rattle.std.proofs.Math.Nat.{mul-div_cancel'}
use Rattle.std.proofs.lemmas.List.{get_or_append_left, length-append}
use Rattle.std.specs.Int.{◌∣◌}
use Rattle.std.specs.Cmp.{nat_cmp_total}
use Rattle.std.specs.FinMap.{nat_cmp-IsAntisymmetric}
use Rattle.alg_mono.specs.FiniteMaps.{Each, IsCanonical, products}
use Rattle.alg_mono.specs.Monomials.{mono_times}
use Rattle.alg_mono.specs.Numbers.{exponents, integers}
use Rattle.alg_mono.proofs.Canonical.{IsCanonical-collect}
use Rattle.alg_mono.proofs.Closure.{IsPolynomial-plus, IsPolynomial-neg}
use Rattle.alg_mono.proofs.Each.{Each-collect, Each-products}
use Rattle.alg_mono.proofs.Numbers.{exponent_laws, integer_laws}
use Rattle.alg_poly.proofs.Parts.{IsCanonical-product}
use Rattle.alg_poly.specs.Divisors.{IsDivisible}
use Rattle.alg_mono.specs.Outcomes.{Outcome, combine_outcome}
use Rattle.alg_mono.specs.Polynomials.{IsPolynomial, poly_neg}
use Rattle.alg_mono.specs.Mono.{Monomial}
use Rattle.alg_mono.specs.NumberedPolynomials.{Polynomial, before, term_of, multiple_of}
use Rattle.alg_lines.specs.Lines.{line_at, combination, IsLineOf, IsStepOf}
use Rattle.alg_lines.specs.Accepting.{IsOneOf, IsGoodLine, IsGoodStep, AreSteps}
use Rattle.alg_lines.specs.declared.cert.Line.{Line}
use Rattle.alg_lines.specs.declared.cert.GoalStep.{GoalStep}
use Rattle.alg_groebner.specs.Leads.{leading}
use Rattle.alg_groebner.specs.Divisors.{common}
use Rattle.alg_groebner.specs.Cancelling.{left_factor, right_factor, crossed, cancelled, cancel_outcome}
use Rattle.alg_groebner.proofs.Exact.{exactly, content_positive, IsPolynomial-over}
use Rattle.alg_groebner.proofs.Divisors.{common_divides, content_divides, some_size}

-- a longer list of lines keeps the steps
at_longer : (lines : List Polynomial) (p : Polynomial) (k : ℕ) → IsOneOf lines k → line_at (lines ++ p ∷ []) k ≡
    line_at lines k
at_longer lines p k h = let high = h.1 in get_or_append_left ([] ∷ lines) (p ∷ []) [] k (omega arith)

one_longer : (lines : List Polynomial) (p : Polynomial) (k : ℕ) → IsOneOf lines k → IsOneOf (lines ++ p ∷ []) k
one_longer lines p k h = let high = h.1 in let longer = length-append lines (p ∷ []) in (h.0, omega arith)

step_longer : (lines : List Polynomial) (p : Polynomial) (s : GoalStep) (before after : Polynomial) →
    IsGoodStep lines s before × IsStepOf lines s before after →
    IsGoodStep (lines ++ p ∷ []) s before × IsStepOf (lines ++ p ∷ []) s before after
step_longer lines p s before after (g, (polynomial, made)) =
    let at = sym (at_longer lines p s.j g.line) in (
      record {
        line = one_longer lines p s.j g.line;
        factor = g.factor;
        fine = subst (λ (q : Polynomial). combine_outcome s.a [] before s.b s.n q ≡ Outcome.Fine) at g.fine;
        exact = subst (λ (q : Polynomial). IsDivisible s.d (combination s.a [] before s.b s.n q)) at g.exact;
      },
      (polynomial, subst (λ (q : Polynomial). multiple_of s.d [] after ≡ combination s.a [] before s.b s.n q) at made),
    )

pub steps_longer : (lines : List Polynomial) (p g : Polynomial) (ss : List GoalStep) (h : Polynomial) → AreSteps lines
    g ss h →
    AreSteps (lines ++ p ∷ []) g ss h
steps_longer lines p g [] h a = a
steps_longer lines p g (s ∷ ss) h a = (a.0, step_longer lines p s g a.0 a.1, steps_longer lines p a.0 ss h a.2)

-- ---- what is cancelled is good
module _ (lines : List Polynomial) (m : Monomial) (i : ℕ) (n : Monomial) (j : ℕ) (first : IsOneOf lines i)
    (second : IsOneOf lines j)
    (fine : cancel_outcome m (line_at lines i) n (line_at lines j) ≡ Outcome.Fine)
    (sound : IsPolynomial nat_cmp integers (crossed m (line_at lines i) n (line_at lines j))) where
  pub good_line :
      let c = cancelled m (line_at lines i) n (line_at lines j) in
      let l : Line = record { a = c.a; m = m; i = i; b = c.b; n = n; j = j; d = c.d } in
      IsGoodLine lines l × IsLineOf lines l c.poly
  unfolding cancelled cancel_outcome
  good_line =
      let x = crossed m (line_at lines i) n (line_at lines j) in (
        record {
          first = first;
          second = second;
          fine = fine;
          exact = (content_positive x sound, (content_divides x sound).1);
        },
        (IsPolynomial-over x sound, exactly x sound),
      )

-- ---- combinations are polynomials, whatever they are made of
every : (p : Polynomial) → Each (λ _. Unit {0}) p
every [] = tt
every (e ∷ p) = (tt, every p)

IsPolynomial-multiple : (c : ℤ) (m : Monomial) (p : Polynomial) → IsPolynomial nat_cmp integers (multiple_of c m p)
IsPolynomial-multiple c m p = record {
  canonical = IsCanonical-product (term_of m c) p;
  monomials =
      let Well = λ (n : Monomial). IsCanonical nat_cmp exponents n in
      Each-collect before integers.amounts Well (products (mono_times nat_cmp) ◌*ℤ◌ (term_of m c) p)
      (Each-products (mono_times nat_cmp) ◌*ℤ◌ (λ _. Unit {0}) (λ _. Unit {0}) Well
      (λ k n _ _. IsCanonical-collect exponent_laws nat_cmp_total nat_cmp-IsAntisymmetric (k ++ n))
      (term_of m c) p (every (term_of m c)) (every p));
}

pub IsPolynomial-crossed : (m : Monomial) (p : Polynomial) (n : Monomial) (q : Polynomial) →
    IsPolynomial nat_cmp integers (crossed m p n q)
IsPolynomial-crossed m p n q =
    let a = left_factor (leading p) (leading q) in
    let b = right_factor (leading p) (leading q) in
    IsPolynomial-plus integer_laws nat_cmp_total nat_cmp-IsAntisymmetric (multiple_of a m p)
    (poly_neg (multiple_of b n q))
    (IsPolynomial-multiple a m p)
    (IsPolynomial-neg nat_cmp_total nat_cmp-IsAntisymmetric (multiple_of b n q) (IsPolynomial-multiple b n q))

pub IsPolynomial-cancelled : (m : Monomial) (p : Polynomial) (n : Monomial) (q : Polynomial) →
    IsPolynomial nat_cmp integers ((cancelled m p n q).poly)
unfolding cancelled
IsPolynomial-cancelled m p n q = IsPolynomial-over (crossed m p n q) (IsPolynomial-crossed m p n q)

some_quotient : (e k v : ℕ) → e * k ≡ v → 0 < v → 1 ≤ k
some_quotient e zero v h s = absurd (omega arith)
some_quotient e (suc k) v h s = omega arith

-- ---- a step
module _ (lines : List Polynomial) (before : Polynomial) (n : Monomial) (j : ℕ) (line : IsOneOf lines j)
    (some : leading (line_at lines j) ≢ pos 0)
    (fine : cancel_outcome [] before n (line_at lines j) ≡ Outcome.Fine) where
  pub good_step :
      let c = cancelled [] before n (line_at lines j) in
      let s : GoalStep = record { a = c.a; b = c.b; n = n; j = j; d = c.d } in
      IsGoodStep lines s before × IsStepOf lines s before c.poly
  unfolding cancelled cancel_outcome
  good_step =
      let q = line_at lines j in
      let x = crossed [] before n q in
      let sound = IsPolynomial-crossed [] before n q in
      let h = common_divides (leading before) (leading q) some in (
        record {
          line = line;
          factor =
              at_least_one (unsigned_abs (leading q)) (common (leading before) (leading q)) h.0 h.1
              (some_size (leading q) some);
          fine = fine;
          exact = (content_positive x sound, (content_divides x sound).1);
        },
        (IsPolynomial-over x sound, exactly x sound),
      )
    where
      at_least_one : (v e : ℕ) → 0 < e → e ∣ v → 0 < v → pos 1 ≤ℤ pos (v / e)
      at_least_one v e p d s = let k = some_quotient e (v / e) v (mul-div_cancel' e d) s in omega (arith, ints)
