-- What a product of factors comes to.
use Rattle.std.specs.Prelude.{◌≡◌, ◌+◌, ◌*◌, true, false, cond, ◌||◌, List, [], ◌∷◌, sum_by}
use Rattle.std.proofs.Common.{refl, sym, ap, ◌∙◌}
use Rattle.std.proofs.lemmas.List.Sums.{sum_by-cons}
use Rattle.std.specs.Cmp.{nat_cmp_total}
use Rattle.std.specs.FinMap.{nat_cmp-IsAntisymmetric}
use Rattle.alg_mono.specs.NumberedPolynomials.{Polynomial, product_of}
use Rattle.alg_mono.specs.Outcomes.{Outcome, Says, outcome, has_zero, is_nothing, norm_product, product_outcome}
use Rattle.alg_mono.specs.Polynomials.{norm, poly_degree}
use Rattle.alg_mono.proofs.Outcomes.{said}
use Rattle.alg_reify.specs.Preparing.{times_each}
use Rattle.alg_reify.proofs.FactorProducts.{product_sum}
use Rattle.alg_reify.proofs.ProductTurns.{degrees}

-- a product with a factor 0 is 0, and breaks no rule
nothing_each : (qs : List Polynomial) → [] ≡ times_each [] qs
nothing_each [] = refl
nothing_each (q ∷ qs) = nothing_each qs

times_nothing : (p : Polynomial) → [] ≡ product_of p []
times_nothing p = sym ((product_sum nat_cmp_total nat_cmp-IsAntisymmetric).comm p [])

pub first_nothing : (p : Polynomial) (qs : List Polynomial) → is_nothing p ≡ true → [] ≡ times_each p qs
first_nothing [] qs h = nothing_each qs
first_nothing (e ∷ p) qs h = absurd (cc)

pub some_nothing : (p : Polynomial) (qs : List Polynomial) → has_zero qs ≡ true → [] ≡ times_each p qs
some_nothing p [] h = absurd (cc)
some_nothing p ([] ∷ qs) h = nothing_each qs ∙ ap (λ r. times_each r qs) (times_nothing p)
some_nothing p ((e ∷ q) ∷ qs) h = some_nothing (product_of p (e ∷ q)) qs h

pub first_nothing_fine : (p : Polynomial) (qs : List Polynomial) → is_nothing p ≡ true →
    product_outcome (p ∷ qs) ≡ Outcome.Fine
first_nothing_fine p qs h =
    λ i. cond (h i || has_zero qs) Outcome.Fine (outcome (norm_product (p ∷ qs)) (sum_by poly_degree (p ∷ qs)))

either_true : (p : Polynomial) (qs : List Polynomial) → has_zero qs ≡ true → has_zero (p ∷ qs) ≡ true
either_true [] qs h = refl
either_true (e ∷ p) qs h = h

pub some_nothing_fine : (p : Polynomial) (qs : List Polynomial) → has_zero qs ≡ true →
    product_outcome (p ∷ qs) ≡ Outcome.Fine
some_nothing_fine p qs h =
    λ i. cond (either_true p qs h i) Outcome.Fine (outcome (norm_product (p ∷ qs)) (sum_by poly_degree (p ∷ qs)))

-- where no factor is 0, the bounds decide
module _ (p : Polynomial) (qs : List Polynomial) (first : is_nothing p ≡ false) (others : has_zero qs ≡ false)
    (o : Outcome) where
  pub outcome_says : Says (norm p * norm_product qs) (poly_degree p + degrees qs) o → product_outcome (p ∷ qs) ≡ o
  outcome_says h =
      (λ i. cond (first i || others i) Outcome.Fine
      (outcome (norm p * norm_product qs) (sum_by-cons poly_degree p qs i)))
      ∙ said (norm p * norm_product qs) (poly_degree p + degrees qs) o h
