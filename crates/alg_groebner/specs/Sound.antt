-- What holds of each state that the machine comes to.
use Rattle.std.specs.Prelude.{◌≡◌, ◌≢◌, ℕ, ◌+◌, ◌^◌, ◌<◌, ◌≤◌, ◌⊎◌, List, [], ◌∷◌, length, All, IfSome}
use Rattle.alg_mono.specs.NumberedPolynomials.{Polynomial}
use Rattle.alg_lines.specs.Lines.{line_at}
use Rattle.alg_pairs.specs.declared.pair.Pair.{Pair}
use Rattle.alg_groebner.specs.State.{State}
use Rattle.alg_groebner.specs.declared.remainder.Remainder.{Remainder}

-- k is the number of a line
abbrev pub IsNumber : List Polynomial → ℕ → Type 0
IsNumber lines k = (1 ≤ k) × (k ≤ length lines)

-- k is the number of a line that is not zero
abbrev pub IsThere : List Polynomial → ℕ → Type 0
IsThere lines k = line_at lines k ≢ []

abbrev pub HasBoth : List Polynomial → Pair → Type 0
HasBoth lines x = IsThere lines x.i × IsThere lines x.j

-- k is one of these numbers
abbrev pub IsIn : List ℕ → ℕ → Type 0
IsIn [] k = ⊥
IsIn (j ∷ js) k = (j ≡ k) ⊎ IsIn js k

-- both lines of the pair are basis lines
abbrev pub AreMembers : List ℕ → Pair → Type 0
AreMembers basis x = IsIn basis x.i × IsIn basis x.j

-- how many steps all remainders have
abbrev pub step_count : List Remainder → ℕ
step_count [] = 0
step_count (g ∷ gs) = length g.steps + step_count gs

pub record IsSound (limit : ℕ) (st : State) : Type 0 where
  pub hypotheses : st.given < 2 ^ 31
  pub limited : limit < 2 ^ 30
  pub counted : st.count ≤ limit
  pub lines : length st.lines ≡ st.given + length st.made
  pub made : length st.made ≤ st.count
  pub spent : length st.made + step_count st.remainders ≤ st.count
  pub taken : st.taken ≤ st.given
  pub powers : length st.remainders ≤ 16
  pub basis : All (IsThere st.lines) st.basis
  pub pairs : All (HasBoth st.lines) st.pairs
  pub members : All (AreMembers st.basis) st.pairs
  pub current : IfSome st.current (IsNumber st.lines)
