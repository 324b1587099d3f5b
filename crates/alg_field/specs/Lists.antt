-- Lists of factors in any order, as the code keeps them.
use Rattle.std.specs.Prelude.{◌≡◌, ℕ, ◌+◌, ◌-◌, ◌<◌, ◌≤◌, cond, [], ◌∷◌}
use Rattle.std.specs.Ordering.{eq_by_cmp}
use Rattle.alg_mono.specs.FiniteMaps.{keep}
use Rattle.alg_mono.specs.Numbers.{exponents}
use Rattle.alg_mono.specs.NumberedPolynomials.{Polynomial}
use Rattle.alg_mono.specs.Polynomials.{norm, poly_degree}
use Rattle.alg_reify.specs.FactorMaps.{FactorMap, order, exponent_of}

-- a polynomial other than 0, 1 and -1, by its norm and degree
pub record IsFactor (q : Polynomial) : Type 0 where
  pub some : 0 < norm q
  pub no_unit : 1 < norm q + poly_degree q

-- the greatest exponent of a factor
abbrev pub MAX_POWER : ℕ
MAX_POWER = 1000

-- no factor comes a second time, no exponent is over the limit, and each is a factor
abbrev pub IsList : FactorMap → Type 0
IsList [] = Unit {0}
IsList (e ∷ es) = (exponent_of e.0 es ≡ 0) × (e.1 ≤ MAX_POWER) × IsFactor e.0 × IsList es

-- e more at the factor q
abbrev pub put : Polynomial → ℕ → FactorMap → FactorMap
put q e [] = (q, e) ∷ []
put q e (f ∷ fs) = cond (eq_by_cmp order q f.0) ((f.0, f.1 + e) ∷ fs) (f ∷ put q e fs)

-- each of the second list put into the first
abbrev pub put_all : FactorMap → FactorMap → FactorMap
put_all a [] = a
put_all a (f ∷ fs) = put_all (put f.0 f.1 a) fs

-- what the second list has beyond the first
abbrev pub beyond : FactorMap → FactorMap → FactorMap
beyond a [] = []
beyond a (f ∷ fs) = keep order exponents f.0 (f.1 - exponent_of f.0 a) (beyond a fs)

-- the first place of a factor, and the length where there is none
abbrev pub place_of : Polynomial → FactorMap → ℕ
place_of q [] = 0
place_of q (f ∷ fs) = cond (eq_by_cmp order q f.0) 0 (1 + place_of q fs)
