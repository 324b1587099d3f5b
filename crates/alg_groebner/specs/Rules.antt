-- The eight rules of the search machine. Of those that apply the first is taken.
use Rattle.std.specs.Prelude.{◌≡◌, ℕ, ◌+◌, ◌-◌, ◌<◌, ◌≤◌, true, List, [], ◌∷◌, Some, None, length, All}
use Rattle.std.specs.declared.cmp.Ordering.TheVariants.{Less}
use Rattle.alg_mono.specs.NumberedPolynomials.{Polynomial}
use Rattle.alg_lines.specs.Lines.{line_at}
use Rattle.alg_pairs.specs.Order.{pair_cmp}
use Rattle.alg_pairs.specs.declared.pair.Pair.{Pair}
use Rattle.alg_groebner.specs.Choices.{remainder_at}
use Rattle.alg_groebner.specs.Leads.{reduces}
use Rattle.alg_groebner.specs.Machine.{counted}
use Rattle.alg_groebner.specs.Moves.{goal_outcome, goal_reduced, dropped, line_outcome, line_reduced, joined, next_taken, without_pair, pair_outcome, pair_taken}
use Rattle.alg_groebner.specs.Sound.{IsIn}
use Rattle.alg_groebner.specs.State.{State, Proved, NoneUpTo, Next, Goes, Ends}

-- k is the least number with a property
pub record IsLeast (P : ℕ → Type 0) (k : ℕ) : Type 0 where
  pub holds : P k
  pub least : (j : ℕ) → P j → k ≤ j

module _ (st : State) where
  -- the power r of the goal came to zero
  abbrev pub IsZeroPower : ℕ → Type 0
  IsZeroPower r = (1 ≤ r) × (r ≤ length st.remainders) × ((remainder_at st.remainders (r - 1)).rest ≡ [])

  -- j is a basis line whose lead divides that of p
  abbrev pub ReducesIt : Polynomial → ℕ → Type 0
  ReducesIt p j = IsIn st.basis j × (reduces (line_at st.lines j) p ≡ true)

  -- the remainder at place r, from 0, is reducible
  abbrev pub IsReducibleAt : ℕ → Type 0
  IsReducibleAt r = (r < length st.remainders) × (j : ℕ) × ReducesIt (remainder_at st.remainders r).rest j

  -- x is the least pair by the least common multiple, then by j, then by i, and these are the others
  abbrev pub IsLeastPair : Pair → List Pair → Type 0
  IsLeastPair x others = (st.pairs ≡ x ∷ others) × All (λ y. pair_cmp x y ≡ Less) others

-- the rules, each by what it finds or does
pub data Rule : Type 0 where
  GoalIsZero GoalIsReduced LineIsZero LineIsReduced LineJoins InputIsTaken PairIsTaken NothingIsLeft : Rule

-- its place among the rules
abbrev pub number : Rule → ℕ
number GoalIsZero = 1
number GoalIsReduced = 2
number LineIsZero = 3
number LineIsReduced = 4
number LineJoins = 5
number InputIsTaken = 6
number PairIsTaken = 7
number NothingIsLeft = 8

module _ (limit : ℕ) (st : State) where
  -- a rule applies, and this is what it does:
  -- GoalIsZero, some power of the goal is zero: the end, with the least such power;
  -- GoalIsReduced, no current line and a remainder is reducible: the first such, by the least line; counted;
  -- LineIsZero, the current line is zero: no current line;
  -- LineIsReduced, the current line is reducible: it is reduced, by the least line; counted;
  -- LineJoins, there is a current line: it joins the basis;
  -- InputIsTaken, an input is left: the next is the current line;
  -- PairIsTaken, a pair is left: the least is removed, and its S-polynomial is the current line; counted;
  -- NothingIsLeft, always: the end
  abbrev pub Does : Rule → Next → Type 0
  Does GoalIsZero x = (r : ℕ) × IsLeast (IsZeroPower st) r × (x ≡ Ends (Proved r))
  Does GoalIsReduced x =
      (r : ℕ) × (j : ℕ) × (st.current ≡ None) × IsLeast (IsReducibleAt st) r
      × IsLeast (ReducesIt st (remainder_at st.remainders r).rest) j
      × (x ≡ counted limit st (goal_outcome st r j) (goal_reduced st r j))
  Does LineIsZero x = (k : ℕ) × (st.current ≡ Some k) × (line_at st.lines k ≡ []) × (x ≡ Goes (dropped st))
  Does LineIsReduced x =
      (k : ℕ) × (j : ℕ) × (st.current ≡ Some k) × IsLeast (ReducesIt st (line_at st.lines k)) j
      × (x ≡ counted limit st (line_outcome st k j) (line_reduced st k j))
  Does LineJoins x = (k : ℕ) × (st.current ≡ Some k) × (x ≡ Goes (joined st k))
  Does InputIsTaken x = (st.taken < st.given) × (x ≡ Goes (next_taken st))
  Does PairIsTaken x =
      (y : Pair) × (others : List Pair) × IsLeastPair st y others
      × (x ≡ counted limit st (pair_outcome st y.i y.j) (pair_taken (without_pair st others) y.i y.j))
  Does NothingIsLeft x = x ≡ Ends (NoneUpTo (length st.remainders))

  -- the first rule that applies does this
  pub record Takes (x : Next) : Type 0 where
    pub rule : Rule
    pub does : Does rule x
    pub first : (other : Rule) (y : Next) → Does other y → number rule ≤ number other

-- numbers from n on, rising
abbrev pub Rises : ℕ → List ℕ → Type 0
Rises n [] = Unit {0}
Rises n (k ∷ ks) = (n ≤ k) × Rises (k + 1) ks

-- each pair is less than those after it
abbrev pub ArePairsRising : List Pair → Type 0
ArePairsRising [] = Unit {0}
ArePairsRising (x ∷ xs) = All (λ y. pair_cmp x y ≡ Less) xs × ArePairsRising xs

-- the lists of basis lines and of pairs are in order
pub record IsInOrder (st : State) : Type 0 where
  pub basis : Rises 0 st.basis
  pub pairs : ArePairsRising st.pairs
