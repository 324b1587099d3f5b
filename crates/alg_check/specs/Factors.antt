-- Lists of factors, each as often as it is one, and fractions over them.
use Rattle.std.specs.Prelude.{ℕ, zero, suc, cond, List, [], ◌++◌, map, sum_by}
use Rattle.std.specs.Ordering.{eq_by_cmp}
use Rattle.alg_mono.specs.NumberedPolynomials.{Polynomial}
use Rattle.alg_meaning.specs.FractionsOver.{FractionOver}
use Rattle.alg_reify.specs.FactorMaps.{FactorMap, order, map_of}
use Rattle.alg_check.specs.declared.fractions.Fraction.{Fraction}

-- each of the list once
abbrev pub once : List Polynomial → FactorMap
once ps = map (λ p. (p, 1)) ps

-- the map that a list is: each factor with the number of its places
abbrev pub as_map : List Polynomial → FactorMap
as_map ps = map_of (once ps)

-- how often a polynomial is among these
abbrev pub times_in : Polynomial → List Polynomial → ℕ
times_in q ps = sum_by (λ p. cond (eq_by_cmp order q p) 1 0) ps

-- the list so many times
abbrev pub repeated : ℕ → List Polynomial → List Polynomial
repeated zero ps = []
repeated (suc n) ps = repeated n ps ++ ps

-- the fraction
abbrev pub fraction_of : Fraction → FractionOver ℕ
fraction_of f = record { top = f.top; below = as_map f.below.items }
