-- Leads with their lines, and the least line whose lead divides a monomial.
use Rattle.std.specs.Prelude.{ℕ, ◌+◌, ◌≤◌, Bool, List, [], ◌∷◌, Option, nat_le, option_map}
use Rattle.std.specs.List.{list_all, find}
use Rattle.std.specs.declared.cmp.Ordering.{Ordering}
use Rattle.std.specs.Ordering.{nat_cmp}
use Rattle.alg_mono.specs.Mono.{Monomial}
use Rattle.alg_mono.specs.Monomials.{exponent}
use Rattle.alg_pairs.specs.declared.lead.Lead.{Lead}

-- whether m is d times a monomial: no atom has a greater exponent in d
abbrev pub divides : Monomial → Monomial → Bool
divides d m = list_all (λ e. nat_le e.1 (exponent nat_cmp e.0 m)) d

-- the order of leads: by their lines
abbrev pub line_cmp : Lead → Lead → Ordering
line_cmp x y = nat_cmp x.line y.line

-- the lines rise, from n on
abbrev pub RisesFrom : ℕ → List Lead → Type 0
RisesFrom n [] = Unit {0}
RisesFrom n (x ∷ xs) = (n ≤ x.line) × RisesFrom (x.line + 1) xs

-- the least line whose lead divides m, of leads whose lines rise
abbrev pub least_divisor : List Lead → Monomial → Option ℕ
least_divisor leads m = option_map (λ x. x.line) (find (λ x. divides x.lead m) leads)
