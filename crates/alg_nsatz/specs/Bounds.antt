-- A bound on a norm.
use Rattle.std.specs.Prelude.{◌≡◌, ℕ, ◌<◌, ◌≤◌, Option, MatchOption}
use Rattle.alg_mono.specs.Polynomials.{MAX}

-- the number n, and None where it is greater than a norm may be
abbrev pub IsBound : ℕ → Option ℕ → Type 0
IsBound n bound = MatchOption bound (MAX < n) (λ k. (k ≡ n) × (k ≤ MAX))
