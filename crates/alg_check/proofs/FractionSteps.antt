-- What is made over both lists of factors is the sum, the difference or the power of the fractions.
use Rattle.std.specs.Prelude.{◌≡◌, ℕ, ◌*◌, ◌^◌, List, ◌++◌}
use Rattle.std.proofs.Common.{sym, ap, subst, ◌∙◌}
use Rattle.std.specs.declared.result.Result.{Result}
use Rattle.alg_mono.specs.declared.ends.Overrun.{Overrun}
use Rattle.alg_mono.specs.NumberedPolynomials.{Polynomial, product_of}
use Rattle.alg_mono.specs.Outcomes.{Outcome, first_breach, product_outcome, sum_outcome}
use Rattle.alg_meaning.specs.FractionRules.{worse, over_outcome, below_outcome}
use Rattle.alg_reify.specs.FactorMaps.{FactorMap, lacks, power_map, product, times_map}
use Rattle.alg_reify.specs.Making.{Gives}
use Rattle.alg_reify.proofs.Giving.{subst_both}
use Rattle.alg_check.specs.declared.bounds.Size.{Size}
use Rattle.alg_check.specs.declared.fractions.Fraction.{Fraction}
use Rattle.alg_check.specs.Bounds.{Fits, IsSize, IsSizeOf, sized}
use Rattle.alg_check.specs.Factors.{as_map, fraction_of, repeated}
use Rattle.alg_check.proofs.FactorCounts.{below_is, power_is, times_is}
use Rattle.alg_check.proofs.Powers.{repeated_size}
use Rattle.alg_check.proofs.Sizes.{fits_product}

-- `op` is the sum or the difference of the numerators
module _ (op : Polynomial → Polynomial → Polynomial) (a b : Fraction) (result : Result Fraction Overrun) where
  abbrev A : FactorMap
  A = as_map a.below.items

  abbrev B : FactorMap
  B = as_map b.below.items

  -- what is made where the sides lack l and r, over m
  abbrev pub MadeOver : FactorMap → FactorMap → FactorMap → Type 0
  MadeOver l r m =
      let first = product_of a.top (product l) in
      let second = product_of b.top (product r) in
      Gives fraction_of (record { top = op first second; below = m })
      (worse (first_breach (worse (over_outcome a.top l) (over_outcome b.top r)) (sum_outcome first second))
      (below_outcome m)) result

  pub over_common : (own others more : List Polynomial) → as_map own ≡ lacks A B → as_map others ≡ lacks B A →
      as_map more ≡ lacks A B → MadeOver (as_map own) (as_map others) (as_map (a.below.items ++ more)) →
      MadeOver (lacks A B) (lacks B A) (times_map A (lacks A B))
  over_common own others more first second also made =
      let below = times_is a.below.items more ∙ ap (times_map A) also in
      subst_both (λ (l r : FactorMap). MadeOver l r (times_map A (lacks A B))) first second
      (subst (λ (m : FactorMap). MadeOver (as_map own) (as_map others) m) below made)

-- whether the factors of a power are refused
pub power_fits : (n : ℕ) (bs listed : List Polynomial) → listed ≡ bs → (one many : Size) → IsSizeOf listed one →
    ((m d : ℕ) → IsSize m d one → IsSize (m ^ n) (n * d) many) → (r : Result (Unit {0}) Overrun) →
    ((m d : ℕ) → IsSize m d many → Fits (sized m d) r) → Fits (below_outcome (power_map (as_map bs) n)) r
power_fits n bs listed same one many size power r tells =
    let rule : product_outcome (repeated n listed) ≡ below_outcome (power_map (as_map bs) n) =
    ap (λ l. product_outcome (repeated n l)) same ∙ sym (below_is (repeated n bs)) ∙ ap below_outcome (power_is n bs) in
    subst (λ (o : Outcome). Fits o r) rule
    (fits_product (repeated n listed) many (repeated_size n listed one many size power) r tells)
