-- A good certificate leads from its hypotheses to its goal in each prime ideal of polynomials.
use Rattle.std.specs.Prelude.{◌≡◌, ◌<◌, ◌≤◌, ◌≤ℤ◌, ℕ, ℤ, pos, suc, Bool, true, List, [], ◌∷◌, ◌++◌, All, length}
use Rattle.std.proofs.Common.{sym, subst, arith}
use Rattle.std.proofs.lemmas.List.Elements.{All-nil, All-cons, All-head, All-tail, All-append, All-get_or}
use Rattle.alg_mono.specs.Mono.{Monomial}
use Rattle.alg_mono.specs.NumberedPolynomials.{Polynomial, difference_of, multiple_of, power_of}
use Rattle.alg_lines.specs.declared.cert.Line.{Line}
use Rattle.alg_lines.specs.declared.cert.GoalStep.{GoalStep}
use Rattle.alg_lines.specs.declared.cert.Cert.{Cert}
use Rattle.alg_lines.specs.Lines.{line_at}
use Rattle.alg_lines.specs.Accepting.{IsOneOf, AreLines, AreSteps, Acceptance, Accepting, Leads, IsGood, Good, Bad, Range, Degree, bad_power, too_great, too_high, bad_line, bad_step, not_zero, good}
use Rattle.alg_lines.specs.Constants.{constants}
use Rattle.alg_check.proofs.ConstantsOf.{constants_suffice}

-- Z holds of the polynomials of a prime ideal, and N of numbers outside it
pub record IsPrime (Z : Polynomial → Type 0) (N : ℤ → Type 0) : Type 0 where
  pub at_zero : Z []
  pub at_difference : (p q : Polynomial) → Z p → Z q → Z (difference_of p q)
  pub at_first : (p q : Polynomial) → Z (difference_of p q) → Z q → Z p
  pub at_multiple : (c : ℤ) (m : Monomial) (p : Polynomial) → Z p → Z (multiple_of c m p)
  pub at_number : (c : ℤ) (p : Polynomial) → N c → Z (multiple_of c [] p) → Z p
  pub at_power : (p : Polynomial) (n : ℕ) → Z (power_of p n) → Z p

module _ {Z : Polynomial → Type 0} {N : ℤ → Type 0} (P : IsPrime Z N) where
  zero_line : (lines : List Polynomial) (k : ℕ) → IsOneOf lines k → All Z lines → Z (line_at lines k)
  zero_line lines k is all =
      let range : k < length ([] ∷ lines) = within (length lines) k is.1 in
      All-get_or Z ([] ∷ lines) k [] range (All-cons Z [] lines P.at_zero all)
    where
      within : (n i : ℕ) → i ≤ n → i < suc n
      within n i h = omega arith

  -- each line is in the ideal
  zero_lines : (lines : List Polynomial) (ls : List Line) (all : List Polynomial) → AreLines lines ls all →
      All Z lines → All (λ l. N l.d) ls → All Z all
  zero_lines lines [] all is zeros some = subst (All Z) (sym is) zeros
  zero_lines lines (l ∷ ls) all (new, made, rest) zeros some =
      let D = λ (k : Line). N k.d in
      let left = P.at_multiple l.a l.m (line_at lines l.i) (zero_line lines l.i made.0.first zeros) in
      let right = P.at_multiple l.b l.n (line_at lines l.j) (zero_line lines l.j made.0.second zeros) in
      let p = multiple_of l.a l.m (line_at lines l.i) in
      let q = multiple_of l.b l.n (line_at lines l.j) in
      let both = P.at_difference p q left right in
      let zero : Z new = P.at_number l.d new (All-head D l ls some) (subst Z (sym made.1.1) both) in
      zero_lines (lines ++ new ∷ []) ls all rest
      (All-append Z lines (new ∷ []) zeros (All-cons Z new [] zero (All-nil Z))) (All-tail D l ls some)

  -- each remainder is in the ideal, from the last back
  zero_steps : (lines : List Polynomial) (g : Polynomial) (ss : List GoalStep) (h : Polynomial) →
      AreSteps lines g ss h → All Z lines → All (λ s. N s.a) ss → Z h → Z g
  zero_steps lines g [] h is zeros some zero = subst Z is zero
  zero_steps lines g (s ∷ ss) h (after, made, rest) zeros some zero =
      let A = λ (k : GoalStep). N k.a in
      let next : Z after = zero_steps lines after ss h rest zeros (All-tail A s ss some) zero in
      let line = P.at_multiple s.b s.n (line_at lines s.j) (zero_line lines s.j made.0.line zeros) in
      let both = subst Z made.1.1 (P.at_multiple s.d [] after next) in
      P.at_number s.a g (All-head A s ss some)
      (P.at_first (multiple_of s.a [] g) (multiple_of s.b s.n (line_at lines s.j)) both line)

-- a good certificate has lines and steps that lead to zero
module _ (hyps : List Polynomial) (g : Polynomial) (cert : Cert) where
  abbrev pub Followed : Acceptance → Type 0
  Followed Good = (all : List Polynomial) × Leads hyps g cert all cert.steps []
  Followed (Bad k) = Unit {0}
  Followed Range = Unit {0}
  Followed Degree = Unit {0}

  pub followed : (a : Acceptance) → Accepting hyps g cert a → Followed a
  followed _ (bad_power h) = tt
  followed _ (too_great h e) = tt
  followed _ (too_high h e) = tt
  followed _ (bad_line before after l lines begins split made wrong) = tt
  followed _ (bad_step before after s all h begins split leads wrong) = tt
  followed _ (not_zero all h begins leads some) = tt
  followed _ (good all begins leads) = (all, leads)

-- d of each line and a of each step is at least 1
pub divisors_of_lines : (lines : List Polynomial) (ls : List Line) (all : List Polynomial) → AreLines lines ls all →
    All (λ l. pos 1 ≤ℤ l.d) ls
divisors_of_lines lines [] all is = All-nil (λ (l : Line). pos 1 ≤ℤ l.d)
divisors_of_lines lines (l ∷ ls) all (new, made, rest) =
    All-cons (λ (k : Line). pos 1 ≤ℤ k.d) l ls made.0.exact.0 (divisors_of_lines (lines ++ new ∷ []) ls all rest)

pub factors_of_steps : (lines : List Polynomial) (g : Polynomial) (ss : List GoalStep) (h : Polynomial) →
    AreSteps lines g ss h → All (λ s. pos 1 ≤ℤ s.a) ss
factors_of_steps lines g [] h is = All-nil (λ (s : GoalStep). pos 1 ≤ℤ s.a)
factors_of_steps lines g (s ∷ ss) h (after, made, rest) =
    All-cons (λ (k : GoalStep). pos 1 ≤ℤ k.a) s ss made.0.factor (factors_of_steps lines after ss h rest)

module _ {Z : Polynomial → Type 0} {N : ℤ → Type 0} (P : IsPrime Z N) (one : N (pos 1)) where
  pub certificate_leads : (hyps : List Polynomial) (g : Polynomial) (cert : Cert) → IsGood hyps g cert →
      (char0 : Bool) → (char0 ≡ true → (c : ℤ) → pos 1 ≤ℤ c → N c) → All Z hyps → All N (constants cert char0) → Z g
  certificate_leads hyps g cert is char0 every zeros some =
      let parts = followed hyps g cert Good is in
      let all = parts.0 in
      let both = constants_suffice N one cert (divisors_of_lines hyps cert.lines all parts.1.0)
      (factors_of_steps all (power_of g cert.power) cert.steps [] parts.1.1) char0 every some in
      P.at_power g cert.power (zero_steps P all (power_of g cert.power) cert.steps [] parts.1.1
      (zero_lines P hyps cert.lines all parts.1.0 zeros both.0) both.1 P.at_zero)
