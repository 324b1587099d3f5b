-- Sums of integers times monomials times lines.
use Rattle.std.specs.Prelude.{◌≡◌, ◌≢◌, List, [], ◌∷◌, ℤ, pos, All}
use Rattle.std.specs.List.{Contains}
use Rattle.std.specs.Ordering.{nat_cmp}
use Rattle.std.specs.declared.cmp.Ordering.TheVariants.{Less}
use Rattle.alg_mono.specs.FiniteMaps.{IsCanonical}
use Rattle.alg_mono.specs.Numbers.{exponents}
use Rattle.alg_mono.specs.Mono.{Monomial}
use Rattle.alg_mono.specs.Monomials.{mono_times, grevlex}
use Rattle.alg_mono.specs.NumberedPolynomials.{Polynomial, sum_of, product_of, multiple_of}
use Rattle.alg_groebner.specs.Leads.{lead}
use Rattle.alg_groebner.specs.Cancelling.{lead_lcm, s_polynomial}

-- an integer times a monomial times a line
pub record LineMultiple : Type 0 where
  pub factor : ℤ
  pub by : Monomial
  pub line : Polynomial

abbrev pub sum_of_multiples : List LineMultiple → Polynomial
sum_of_multiples [] = []
sum_of_multiples (t ∷ ts) = sum_of (multiple_of t.factor t.by t.line) (sum_of_multiples ts)

-- a multiple of one of the lines, with a lead as `Low` says
pub record IsLineMultiple (lines : List Polynomial) (Low : Monomial → Type 0) (t : LineMultiple) : Type 0 where
  pub monomial : IsCanonical nat_cmp exponents t.by
  pub member : Contains lines t.line
  pub low : Low (mono_times nat_cmp t.by (lead t.line))

-- a nonzero integer times p is a finite sum of such multiples
pub record IsSum (lines : List Polynomial) (Low : Monomial → Type 0) (p : Polynomial) : Type 0 where
  pub multiple : ℤ
  pub some : multiple ≢ pos 0
  pub parts : List LineMultiple
  pub fit : All (IsLineMultiple lines Low) parts
  pub same : multiple_of multiple [] p ≡ sum_of_multiples parts

-- p is a combination of the lines, over the rationals
abbrev pub IsCombination : List Polynomial → Polynomial → Type 0
IsCombination lines p = IsSum lines (λ v. Unit {0}) p

-- p is such a sum whose multiples have leads that do not exceed its own
abbrev pub IsCombinationUpTo : List Polynomial → Polynomial → Type 0
IsCombinationUpTo lines p = IsSum lines (λ v. grevlex nat_cmp (lead p) v ≢ Less) p

-- p is below the monomial w: it is such a sum whose multiples have leads less than w
abbrev pub IsBelowOver : List Polynomial → Monomial → Polynomial → Type 0
IsBelowOver lines w p = IsSum lines (λ v. grevlex nat_cmp v w ≡ Less) p

-- the S-polynomial of every two lines is below the least common multiple of their leads
abbrev pub ArePairsBelow : List Polynomial → Type 0
ArePairsBelow lines =
    (f g : Polynomial) → Contains lines f → Contains lines g → IsBelowOver lines (lead_lcm f g) (s_polynomial f g).poly

-- S_1*H_1 + .. + S_s*H_s
abbrev pub sum_of_products : List Polynomial → List Polynomial → Polynomial
sum_of_products [] hs = []
sum_of_products (s ∷ ss) [] = []
sum_of_products (s ∷ ss) (h ∷ hs) = sum_of (product_of s h) (sum_of_products ss hs)
