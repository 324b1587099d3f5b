-- Products of powers of polynomials over atoms by number: the words for factors, at the order of numbers.
use Rattle.std.specs.Prelude.{ℕ, sum_by}
use Rattle.std.specs.declared.cmp.Ordering.{Ordering}
use Rattle.std.specs.Ordering.{nat_cmp}
use Rattle.alg_mono.specs.FiniteMaps.{collect}
use Rattle.alg_mono.specs.Monomials.{exponent, mono_times, mono_power}
use Rattle.alg_mono.specs.Numbers.{exponents}
use Rattle.alg_mono.specs.NumberedPolynomials.{Polynomial}
use Rattle.alg_mono.specs.Outcomes.{norm_product}
use Rattle.alg_mono.specs.Polynomials.{poly_degree}
use Rattle.alg_meaning.specs.FractionRules.{all_factors}
use Rattle.alg_meaning.specs.FactorsOver.{FactorsOver, poly_cmp}
use Rattle.alg_meaning.specs.FactorsOver as over

-- polynomials with exponents
abbrev pub FactorMap : Type 0
FactorMap = FactorsOver ℕ

-- the order of polynomials
abbrev pub order : Polynomial → Polynomial → Ordering
order p q = poly_cmp nat_cmp p q

-- the exponent of a polynomial, and 0 where it is no factor
abbrev pub exponent_of : Polynomial → FactorMap → ℕ
exponent_of q m = exponent order q m

-- the exponents add up
abbrev pub times_map : FactorMap → FactorMap → FactorMap
times_map a b = mono_times order a b

-- each exponent n times
abbrev pub power_map : FactorMap → ℕ → FactorMap
power_map a n = mono_power order a n

-- the factors that a lacks of b
abbrev pub lacks : FactorMap → FactorMap → FactorMap
lacks a b = over.lacks nat_cmp a b

-- the product of all factors
abbrev pub product : FactorMap → Polynomial
product m = over.product nat_cmp m

-- the map that a list is: each factor once, with its exponents added up
abbrev pub map_of : FactorMap → FactorMap
map_of es = collect order exponents es

-- the product of the norms of all factors, each as often as its exponent says
abbrev pub norms : FactorMap → ℕ
norms m = norm_product (all_factors m)

-- the sum of their degrees
abbrev pub degrees : FactorMap → ℕ
degrees m = sum_by poly_degree (all_factors m)
