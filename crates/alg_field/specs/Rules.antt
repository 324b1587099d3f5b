-- The rules as the code tells them, and bounds.
use Rattle.std.specs.Prelude.{◌≡◌, ℕ, ◌<◌, ◌≤◌, Option, MatchOption}
use Rattle.alg_mono.specs.Outcomes.{Outcome}
use Rattle.alg_field.specs.declared.rules.Rule.{Rule}

-- the outcome that a rule is
abbrev pub outcome_of : Rule → Outcome
outcome_of Rule.Fine = Outcome.Fine
outcome_of Rule.Range = Outcome.Range
outcome_of Rule.Degree = Outcome.Degree

-- the number n, and None where it is over the limit
abbrev pub IsBound : ℕ → ℕ → Option ℕ → Type 0
IsBound limit n bound = MatchOption bound (limit < n) (λ k. (k ≡ n) × (k ≤ limit))
