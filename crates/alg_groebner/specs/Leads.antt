-- Leads, and which line reduces a polynomial.
use Rattle.std.specs.Prelude.{◌==◌, Bool, false, [], ◌∷◌, ℤ, pos}
use Rattle.std.specs.List.{list_all}
use Rattle.std.specs.Ordering.{nat_cmp}
use Rattle.alg_mono.specs.Monomials.{exponent}
use Rattle.alg_mono.specs.Mono.{Monomial}
use Rattle.alg_mono.specs.NumberedPolynomials.{Polynomial}
use Rattle.alg_pairs.specs.Leads.{divides}

-- the greatest monomial, and 1 for zero
abbrev pub lead : Polynomial → Monomial
lead [] = []
lead (e ∷ p) = e.0

-- its coefficient, and 0 for zero
abbrev pub leading : Polynomial → ℤ
leading [] = pos 0
leading (e ∷ p) = e.1

-- whether m and n have no common atom
abbrev pub coprime : Monomial → Monomial → Bool
coprime m n = list_all (λ e. exponent nat_cmp e.0 n == 0) m

-- whether the lead of q divides that of p, neither being zero
abbrev pub reduces : Polynomial → Polynomial → Bool
reduces [] p = false
reduces (f ∷ q) [] = false
reduces (f ∷ q) (e ∷ p) = divides f.0 e.0
