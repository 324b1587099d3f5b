-- Counts of faults: when one has risen, and what a failure needs.
use Rattle.std.specs.Prelude.{ℕ, ◌+◌, ◌-◌, ◌^◌, ◌<◌, ◌≤◌, ◌≡◌, min, OnErr, MatchResult}
use Rattle.std.specs.declared.result.Result.{Result}

-- the greatest count, at which a count stays
abbrev pub greatest_count : ℕ
greatest_count = 2 ^ 64 - 1

-- the count after one more fault, or one more call
abbrev pub one_more : ℕ → ℕ
one_more count = min (count + 1) greatest_count

-- the count is greater than before, unless it stands at its greatest, where it can't rise any more
abbrev pub Rose : ℕ → ℕ → Type 0
Rose before after = after < greatest_count → before < after

-- a count doesn't fall and stays in its range, and a call fails only where the count rose
pub record HasCause {T E : Type 0} (before after : ℕ) (result : Result T E) : Type 0 where
  pub never_falls : before ≤ after
  pub in_range : after ≤ greatest_count
  pub failed : OnErr result (Rose before after)

-- the count is one more after a failure, and the same after a success
abbrev pub CountsFailure : {T E : Type 0} → ℕ → ℕ → Result T E → Type 0
CountsFailure before after result =
    MatchResult result (λ _. after ≡ before) (λ _. after ≡ one_more before)
