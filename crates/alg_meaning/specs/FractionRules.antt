-- Which rule making a fraction of those of its parts breaks, over any atoms.
use Rattle.std.specs.Prelude.{ℕ, cond, List, [], ◌∷◌, ◌++◌, replicate}
use Rattle.std.specs.declared.cmp.Ordering.{Ordering}
use Rattle.alg_mono.specs.Outcomes.{Outcome, first_breach, sum_outcome, product_outcome, power_outcome}
use Rattle.alg_mono.specs.Polynomials.{PolyOver}
use Rattle.alg_meaning.specs.FactorsOver.{FactorsOver, lacks}
use Rattle.alg_meaning.specs.FractionsOver.{FractionOver, is_unit, cleared, frac_sum, frac_product, frac_quotient, frac_power}

-- of two things made at one node: Range before Degree
abbrev pub worse : Outcome → Outcome → Outcome
worse Outcome.Fine other = other
worse Outcome.Range other = Outcome.Range
worse Outcome.Degree Outcome.Fine = Outcome.Degree
worse Outcome.Degree Outcome.Range = Outcome.Range
worse Outcome.Degree Outcome.Degree = Outcome.Degree

module _ {K : Type 0} where
  -- the factors, each as often as its exponent says
  abbrev pub all_factors : FactorsOver K → List (PolyOver K)
  all_factors [] = []
  all_factors (e ∷ m) = replicate e.1 e.0 ++ all_factors m

  -- a polynomial times a product of factors, made as one product
  abbrev pub over_outcome : PolyOver K → FactorsOver K → Outcome
  over_outcome p m = product_outcome (p ∷ all_factors m)

  -- the product of the new factors
  abbrev pub below_outcome : FactorsOver K → Outcome
  below_outcome m = product_outcome (all_factors m)

module _ {K : Type 0} (cmp : K → K → Ordering) where
  -- both cleared numerators
  abbrev pub cleared_outcome : FractionOver K → FractionOver K → Outcome
  cleared_outcome a b =
      worse (over_outcome a.top (lacks cmp a.below b.below)) (over_outcome b.top (lacks cmp b.below a.below))

  -- a sum or a difference: it is made only where both products are fine
  abbrev pub sum_of_fractions : FractionOver K → FractionOver K → Outcome
  sum_of_fractions a b =
      worse (first_breach (cleared_outcome a b) (sum_outcome (cleared cmp a b) (cleared cmp b a)))
      (below_outcome (frac_sum cmp a b).below)

  -- a product
  abbrev pub product_of_fractions : FractionOver K → FractionOver K → Outcome
  product_of_fractions a b =
      worse (product_outcome (a.top ∷ b.top ∷ [])) (below_outcome (frac_product cmp a b).below)

  -- a quotient: the numerator takes b's factors, and b's numerator where that is 1 or -1
  abbrev pub quotient_of_fractions : FractionOver K → FractionOver K → Outcome
  quotient_of_fractions a b =
      let unit = is_unit cmp b.top in
      worse (product_outcome (a.top ∷ (all_factors b.below ++ cond unit (b.top ∷ []) [])))
      (below_outcome (frac_quotient cmp unit a b).below)

  -- a power
  abbrev pub power_of_fraction : FractionOver K → ℕ → Outcome
  power_of_fraction a n = worse (power_outcome a.top n) (below_outcome (frac_power cmp a n).below)
