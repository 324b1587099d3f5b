-- Products of powers of polynomials over any atoms: finite maps from polynomials to exponents.
use Rattle.std.specs.Prelude.{ℕ, List, [], ◌∷◌, ℤ, pos}
use Rattle.std.specs.declared.cmp.Ordering.{Ordering}
use Rattle.std.specs.Ordering.{ordering_then, int_cmp}
use Rattle.std.specs.Cmp.Lexicographic.{slice_cmp}
use Rattle.alg_mono.specs.FiniteMaps.{total}
use Rattle.alg_mono.specs.Numbers.{integers}
use Rattle.alg_mono.specs.Monomials.{mono_times, mono_over, lcm, grevlex, falling}
use Rattle.alg_mono.specs.Polynomials.{PolyOver, poly_times, poly_power}

-- polynomials with exponents
abbrev pub FactorsOver : Type 0 → Type 0
FactorsOver K = List (PolyOver K × ℕ)

module _ {K : Type 0} (cmp : K → K → Ordering) where
  -- the order of the terms of polynomials: by the monomial in grevlex, then by the coefficient
  abbrev pub term_cmp : List (K × ℕ) × ℤ → List (K × ℕ) × ℤ → Ordering
  term_cmp e f = ordering_then (grevlex cmp e.0 f.0) (int_cmp e.1 f.1)

  -- the order of polynomials: term by term from their leads
  abbrev pub poly_cmp : PolyOver K → PolyOver K → Ordering
  poly_cmp p q = slice_cmp term_cmp p q

  -- the product of two polynomials
  abbrev pub times : PolyOver K → PolyOver K → PolyOver K
  times p q = poly_times (falling cmp) integers (mono_times cmp) p q

  -- the product of n factors p
  abbrev pub power : PolyOver K → ℕ → PolyOver K
  power p n = poly_power (falling cmp) integers [] (mono_times cmp) p n

  -- the product of all factors, each as often as its exponent says
  abbrev pub product : FactorsOver K → PolyOver K
  product m = total (([], pos 1) ∷ []) times (λ q e. power q e) m

  -- the factors that a lacks of b: each exponent of b less that in a
  abbrev pub lacks : FactorsOver K → FactorsOver K → FactorsOver K
  lacks a b = mono_over poly_cmp b a

  -- the greater exponent of each factor
  abbrev pub common : FactorsOver K → FactorsOver K → FactorsOver K
  common a b = lcm poly_cmp a b
