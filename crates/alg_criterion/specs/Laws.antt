-- Buchberger's theorem over the search machine, in four laws.
use Rattle.std.specs.Prelude.{◌≡◌, ◌≢◌, ℕ, ◌<◌, ◌≤◌, ◌^◌, List, [], length, map, true, ℤ, pos, All}
use Rattle.std.specs.List.{Contains}
use Rattle.std.specs.Ordering.{nat_cmp}
use Rattle.alg_mono.specs.Numbers.{integers}
use Rattle.alg_mono.specs.Polynomials.{IsPolynomial}
use Rattle.alg_mono.specs.NumberedPolynomials.{Polynomial, multiple_of, power_of}
use Rattle.alg_lines.specs.Lines.{line_at}
use Rattle.alg_groebner.specs.Leads.{reduces}
use Rattle.alg_groebner.specs.State.{State, End, NoneUpTo}
use Rattle.alg_groebner.specs.Runs.{Comes}
use Rattle.alg_criterion.specs.Combinations.{IsCombination, IsCombinationUpTo, ArePairsBelow, sum_of_products}

-- the search for powers of g up to the greatest ended so, in the state `last`
pub record IsRun (hyps : List Polynomial) (g : Polynomial) (power limit : ℕ) (last : State) (e : End) : Type 0 where
  pub hypotheses : All (λ p. IsPolynomial nat_cmp integers p) hyps
  pub goal : IsPolynomial nat_cmp integers g
  pub few : length hyps < 2 ^ 31
  pub powers : power ≤ 16
  pub limited : limit ≤ 1000000
  pub comes : Comes hyps g power limit last e

-- the basis lines
abbrev pub basis_of : State → List Polynomial
basis_of st = map (λ k. line_at st.lines k) st.basis

-- each line is a combination of the hypotheses, and where nothing is left to do each hypothesis is one of
-- basis lines, no part of which has a lead greater than its own
pub record LinesAreCombinations : Type 0 where
  pub lines : (hyps : List Polynomial) (g : Polynomial) (power limit : ℕ) (last : State) (e : End) →
      IsRun hyps g power limit last e → All (IsCombination hyps) last.lines
  pub hypotheses : (hyps : List Polynomial) (g : Polynomial) (power limit : ℕ) (last : State) (r : ℕ) →
      IsRun hyps g power limit last (NoneUpTo r) → All (IsCombinationUpTo (basis_of last)) hyps

-- where nothing is left to do all pairs of basis lines are below, those with coprime leads too
abbrev pub PairsAreBelow : Type 0
PairsAreBelow =
    (hyps : List Polynomial) (g : Polynomial) (power limit : ℕ) (last : State) (r : ℕ) →
    IsRun hyps g power limit last (NoneUpTo r) → ArePairsBelow (basis_of last)

-- a line of a basis: a polynomial other than zero
abbrev pub IsBasisLine : Polynomial → Type 0
IsBasisLine f = IsPolynomial nat_cmp integers f × (f ≢ [])

-- where all pairs are below, the lead of one of the lines divides that of each nonzero combination
abbrev pub LeadsDivide : Type 0
LeadsDivide =
    (basis : List Polynomial) → All IsBasisLine basis → ArePairsBelow basis →
    (p : Polynomial) → IsPolynomial nat_cmp integers p → p ≢ [] → IsCombination basis p →
    (f : Polynomial) × Contains basis f × (reduces f p ≡ true)

-- no nonzero multiple of a power of g, from 1 up to this one, is a sum of products with the hypotheses
abbrev pub HasNone : List Polynomial → Polynomial → ℕ → Type 0
HasNone hyps g greatest =
    (c : ℤ) → c ≢ pos 0 → (r : ℕ) → 1 ≤ r → r ≤ greatest →
    (factors : List Polynomial) → All (λ p. IsPolynomial nat_cmp integers p) factors →
    multiple_of c [] (power_of g r) ≢ sum_of_products factors hyps

-- where nothing is left to do there is none
abbrev pub NoneExists : Type 0
NoneExists =
    (hyps : List Polynomial) (g : Polynomial) (power limit : ℕ) (last : State) (r : ℕ) →
    IsRun hyps g power limit last (NoneUpTo r) → HasNone hyps g r
