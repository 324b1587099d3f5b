-- Laws of the search machine.
use Rattle.std.specs.Prelude.{◌≡◌, ℕ, ◌+◌, ◌-◌, ◌<◌, ◌≤◌, ◌^◌, ◌↔◌, true, false, List, length, All, slice_index_or}
use Rattle.std.specs.Ordering.{nat_cmp}
use Rattle.alg_mono.specs.Numbers.{integers}
use Rattle.alg_mono.specs.Polynomials.{IsPolynomial}
use Rattle.alg_mono.specs.NumberedPolynomials.{Polynomial}
use Rattle.alg_lines.specs.Accepting.{IsGood}
use Rattle.alg_lines.specs.declared.cert.Line.{Line}
use Rattle.alg_lines.specs.declared.cert.GoalStep.{GoalStep}
use Rattle.alg_groebner.specs.Choices.{remainder_at}
use Rattle.alg_groebner.specs.Cited.{IsCited, CiteEarlier, CiteLines}
use Rattle.alg_groebner.specs.Pruning.{marks_of, certificate}
use Rattle.alg_groebner.specs.Rules.{Takes, IsInOrder}
use Rattle.alg_groebner.specs.State.{State, End, Proved, NoneUpTo, Next, Goes}
use Rattle.alg_groebner.specs.Runs.{Runs, Comes, first_state}
use Rattle.alg_groebner.specs.Sound.{IsSound}
use Rattle.alg_groebner.specs.Within.{IsCertWithin, IsOverAtoms}
use Rattle.alg_groebner.specs.declared.remainder.Remainder.{Remainder}

-- in each state one rule is taken, with one next state or one end
abbrev pub OneStep : Type 0
OneStep = (limit : ℕ) (st : State) → (x : Next) × Takes limit st x × ((y : Next) → Takes limit st y → y ≡ x)

-- the lists of each state of a search are in order: those of the first, and after each step
abbrev pub StaysInOrder : Type 0
StaysInOrder =
    ((hyps : List Polynomial) (gs : List Remainder) → IsInOrder (first_state hyps gs))
    × ((limit : ℕ) (st to : State) → IsInOrder st → Takes limit st (Goes to) → IsInOrder to)

-- a run has one end, in one state
abbrev pub OneEnd : Type 0
OneEnd =
    (limit : ℕ) (st a b : State) (e f : End) → Runs limit st a e → Runs limit st b f → (a ≡ b) × (e ≡ f)

-- and each run ends
abbrev pub SomeEnd : Type 0
SomeEnd = (limit : ℕ) (st : State) → IsSound limit st → (last : State) × (e : End) × Runs limit st last e

-- so each search has an end
abbrev pub EachSearchEnds : Type 0
EachSearchEnds =
    (hyps : List Polynomial) (g : Polynomial) (power limit : ℕ) → length hyps < 2 ^ 31 → power ≤ 16 →
    limit ≤ 1000000 → (last : State) × (e : End) × Comes hyps g power limit last e

-- the certificate of a run that came to zero is good
abbrev pub CertificatesAreGood : Type 0
CertificatesAreGood =
    (hyps : List Polynomial) (g : Polynomial) (power limit : ℕ) → All (λ p. IsPolynomial nat_cmp integers p) hyps →
    length hyps < 2 ^ 31 → power ≤ 16 → limit ≤ 1000000 →
    (last : State) (r : ℕ) → Comes hyps g power limit last (Proved r) → IsGood hyps g (certificate last r)

-- and where all polynomials are over n atoms, its numbers and monomials are within the limits, over these atoms
abbrev pub CertificatesAreWithin : Type 0
CertificatesAreWithin =
    (n : ℕ) (hyps : List Polynomial) (g : Polynomial) (power limit : ℕ) → All (IsOverAtoms n) hyps → IsOverAtoms n g →
    length hyps < 2 ^ 31 → power ≤ 16 → limit ≤ 1000000 →
    (last : State) (r : ℕ) → Comes hyps g power limit last (Proved r) → IsCertWithin n (certificate last r)

-- and its power is one of those that are sought; so is the greatest power that a search without such a run tells
pub record PowersAreSought : Type 0 where
  pub proved : (hyps : List Polynomial) (g : Polynomial) (power limit : ℕ) → length hyps < 2 ^ 31 → power ≤ 16 →
      limit ≤ 1000000 → (last : State) (r : ℕ) → Comes hyps g power limit last (Proved r) →
      (certificate last r).power ≤ power
  pub none : (hyps : List Polynomial) (g : Polynomial) (power limit : ℕ) → length hyps < 2 ^ 31 → power ≤ 16 →
      limit ≤ 1000000 → (last : State) (r : ℕ) → Comes hyps g power limit last (NoneUpTo r) → r ≤ power

-- the lines of each run cite earlier lines, and the steps to each remainder cite lines
abbrev pub RunsCite : Type 0
RunsCite =
    (hyps : List Polynomial) (g : Polynomial) (power limit : ℕ) → All (λ p. IsPolynomial nat_cmp integers p) hyps →
    length hyps < 2 ^ 31 → power ≤ 16 → limit ≤ 1000000 →
    (last : State) (e : End) → Comes hyps g power limit last e →
    CiteEarlier last.given last.made
    × ((r : ℕ) → CiteLines (last.given + length last.made) (remainder_at last.remainders r).steps)

-- of the lines beyond the hypotheses exactly those are marked that the steps cite, directly or through other lines; the
-- marked lines are those that a certificate keeps
abbrev pub MarksAreCited : Type 0
MarksAreCited =
    (given : ℕ) (made : List Line) (steps : List GoalStep) → CiteEarlier given made →
    CiteLines (given + length made) steps → (n : ℕ) → given < n → n ≤ given + length made →
    (slice_index_or (marks_of given made steps) (n - 1) false ≡ true) ↔ IsCited given made steps n
