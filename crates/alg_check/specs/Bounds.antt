-- Bounds on products of polynomials.
use Rattle.std.specs.Prelude.{◌≡◌, ℕ, zero, suc, ◌^◌, true, List, sum_by, min}
use Rattle.std.specs.declared.result.Result.{Result}
use Rattle.std.specs.declared.result.Result.TheVariants.{Ok, Err}
use Rattle.alg_mono.specs.declared.ends.Overrun.{Overrun}
use Rattle.alg_mono.specs.NumberedPolynomials.{Polynomial}
use Rattle.alg_mono.specs.Outcomes.{Outcome, outcome, has_zero, norm_product}
use Rattle.alg_mono.specs.Polynomials.{poly_degree}
use Rattle.alg_mono.specs.Refusals.{RefusesWith}
use Rattle.alg_check.specs.declared.bounds.Size.{Size}

-- nothing is refused where no rule is broken, and else the broken rule is told
abbrev pub Fits : Outcome → Result (Unit {0}) Overrun → Type 0
Fits outcome (Ok _) = outcome ≡ Outcome.Fine
Fits outcome (Err e) = RefusesWith e outcome

-- the least number over the limit on norms, and on degrees
abbrev pub norm_end : ℕ
norm_end = 2 ^ 127

abbrev pub degree_end : ℕ
degree_end = 1001

-- the size is this norm and this degree, each as far as the limit
abbrev pub IsSize : ℕ → ℕ → Size → Type 0
IsSize norm degree size = (size.norm ≡ min norm norm_end) × (size.degree ≡ min degree degree_end)

-- the rule that a product of these norms and degrees breaks: the product 0 breaks none
abbrev pub sized : ℕ → ℕ → Outcome
sized zero degree = Outcome.Fine
sized (suc norm) degree = outcome (suc norm) degree

-- a factor is zero where the product of the norms is
abbrev pub IsSound : List Polynomial → Type 0
IsSound ps = norm_product ps ≡ 0 → has_zero ps ≡ true

-- the size of a product of these
abbrev pub IsSizeOf : List Polynomial → Size → Type 0
IsSizeOf ps size = IsSize (norm_product ps) (sum_by poly_degree ps) size × IsSound ps
