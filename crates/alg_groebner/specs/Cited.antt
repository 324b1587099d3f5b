-- Which lines the steps of a certificate cite, directly or through other lines.
use Rattle.std.specs.Prelude.{◌≡◌, ℕ, ◌+◌, ◌≤◌, ◌⊎◌, List, [], ◌∷◌}
use Rattle.alg_lines.specs.declared.cert.Line.{Line}
use Rattle.alg_lines.specs.declared.cert.GoalStep.{GoalStep}

-- line number k is l, where the first of the list comes after p lines
abbrev pub IsNumbered : ℕ → List Line → ℕ → Line → Type 0
IsNumbered p [] k l = ⊥
IsNumbered p (m ∷ ls) k l = ((k ≡ p + 1) × (m ≡ l)) ⊎ IsNumbered (p + 1) ls k l

-- a step cites line n
abbrev pub StepsCite : List GoalStep → ℕ → Type 0
StepsCite [] n = ⊥
StepsCite (g ∷ gs) n = (g.j ≡ n) ⊎ StepsCite gs n

-- line n is cited by a step, or by a line that is cited
pub data IsCited (given : ℕ) (made : List Line) (steps : List GoalStep) : ℕ → Type 0 where
  by_step : {n : ℕ} → StepsCite steps n → IsCited given made steps n
  by_line : {n : ℕ} (k : ℕ) (l : Line) → IsCited given made steps k → IsNumbered given made k l →
      (l.i ≡ n) ⊎ (l.j ≡ n) → IsCited given made steps n

-- each line cites lines before it, where the first of the list comes after p lines
abbrev pub CiteEarlier : ℕ → List Line → Type 0
CiteEarlier p [] = Unit {0}
CiteEarlier p (l ∷ ls) = ((1 ≤ l.i) × (l.i ≤ p) × (1 ≤ l.j) × (l.j ≤ p)) × CiteEarlier (p + 1) ls

-- each step cites one of n lines
abbrev pub CiteLines : ℕ → List GoalStep → Type 0
CiteLines n [] = Unit {0}
CiteLines n (g ∷ gs) = ((1 ≤ g.j) × (g.j ≤ n)) × CiteLines n gs
