-- The numerators that break no rule are within the limits, and the coefficients of No by field within the range.
use Rattle.std.specs.Prelude.{◌≡◌, ℕ, zero, suc, ◌≤◌, [], ◌∷◌, sum_by}
use Rattle.std.proofs.Common.{refl, sym, subst, arith}
use Rattle.std.proofs.Math.Nat.{le_trans}
use Rattle.std.proofs.lemmas.List.Sums.{sum_by-cons}
use Rattle.std.proofs.lemmas.Nat.{mul-le}
use Rattle.alg_terms.specs.declared.goals.Equation.{Equation}
use Rattle.alg_mono.specs.FiniteMaps.{total}
use Rattle.alg_mono.specs.Numbers.{integers}
use Rattle.alg_mono.specs.Outcomes.{Outcome, norm_product}
use Rattle.alg_mono.specs.Polynomials.{norm, poly_degree}
use Rattle.alg_mono.proofs.Degrees.{degree-poly_times}
use Rattle.alg_mono.proofs.Norms.{norm-poly_times}
use Rattle.alg_mono.proofs.Numbers.{natural_sum}
use Rattle.alg_mono.proofs.Totals.{IsSum}
use Rattle.alg_meaning.specs.Atoms.{Polynomial, falling, times, times_poly, power_poly, one_poly}
use Rattle.alg_meaning.specs.Factors.{Factors, product, lacks}
use Rattle.alg_meaning.specs.Fractions.{frac}
use Rattle.alg_meaning.specs.FractionOutcome.{FractionOutcome, first_not_fine, of_polynomials, frac_outcome}
use Rattle.alg_meaning.specs.FractionRules.{worse, all_factors, over_outcome}
use Rattle.alg_meaning.specs.Orders.{atom_total, atom_anti}
use Rattle.alg_reify.specs.FieldLaws.{FieldNoIsWithinRange}
use Rattle.alg_reify.specs.FieldVerdict.{left_numerator, right_numerator, sides_outcome}
use Rattle.alg_reify.specs.RingVerdict.{own_table}
use Rattle.alg_reify.proofs.FactorMeasures.{many, measure, measure-all, norm_sum, norm_measure, degree_measure}
use Rattle.alg_reify.proofs.Ranges.{IsWithin, product_within, numbered_within}

-- a size that a product has at most as great as its factors in all
module _ {none : ℕ} {plus : ℕ → ℕ → ℕ} (S : IsSum none plus)
    (rises : (a b c d : ℕ) → a ≤ c → b ≤ d → plus a b ≤ plus c d) (size : Polynomial → ℕ)
    (of_one : size one_poly ≤ none)
    (of_times : (p q : Polynomial) → size (times_poly p q) ≤ plus (size p) (size q)) where
  power_size : (p : Polynomial) (n : ℕ) → size (power_poly p n) ≤ many S n (size p)
  power_size p zero = of_one
  power_size p (suc n) =
      let rest = power_poly p n in
      le_trans (of_times p rest) (rises (size p) (size rest) (size p) (many S n (size p)) (omega arith) (power_size p n))

  entries_size : (m : Factors) → size (product m) ≤ total none plus (λ q e. many S e (size q)) m
  entries_size [] = of_one
  entries_size (e ∷ m) =
      let power = power_poly e.0 e.1 in
      let rest = total none plus (λ q e. many S e (size q)) m in
      le_trans (of_times power (product m))
      (rises (size power) (size (product m)) (many S e.1 (size e.0)) rest (power_size e.0 e.1) (entries_size m))

  product_size : (m : Factors) → size (product m) ≤ measure S size (all_factors m)
  product_size m = subst (λ n. size (product m) ≤ n) (sym (measure-all S size m)) (entries_size m)

-- the norm and the degree are such
norm_bound : (m : Factors) → norm (product m) ≤ norm_product (all_factors m)
norm_bound m =
    subst (λ n. norm (product m) ≤ n) (sym (norm_measure (all_factors m)))
    (product_size norm_sum mul-le (λ p. norm p) (omega arith) (norm-poly_times falling times) m)

degree_bound : (m : Factors) → poly_degree (product m) ≤ sum_by poly_degree (all_factors m)
degree_bound m =
    subst (λ n. poly_degree (product m) ≤ n) (sym (degree_measure (all_factors m)))
    (product_size natural_sum (λ a b c d h g. omega (arith, h, g)) (λ p. poly_degree p) (omega arith)
    (degree-poly_times integers atom_total atom_anti) m)

-- a numerator times factors, where that breaks no rule
over_within : (p : Polynomial) (m : Factors) → over_outcome p m ≡ Outcome.Fine → IsWithin (times_poly p (product m))
over_within p m fine =
    product_within p (product m) (p ∷ all_factors m)
    (mul-le (norm p) (norm (product m)) (norm p) (norm_product (all_factors m)) (omega arith) (norm_bound m))
    (omega (arith, sum_by-cons poly_degree p (all_factors m), degree_bound m)) fine

-- where both numerators break no rule, neither does
worse_fine : (a b : Outcome) → worse a b ≡ Outcome.Fine → (a ≡ Outcome.Fine) × (b ≡ Outcome.Fine)
worse_fine Outcome.Fine b h = (refl, h)
worse_fine Outcome.Range b h = absurd (cc)
worse_fine Outcome.Degree Outcome.Fine h = absurd (cc)
worse_fine Outcome.Degree Outcome.Range h = absurd (cc)
worse_fine Outcome.Degree Outcome.Degree h = absurd (cc)

-- of three things made in order
last_fine : (a b : FractionOutcome) (o : Outcome) →
    first_not_fine a (first_not_fine b (of_polynomials o)) ≡ FractionOutcome.Fine → o ≡ Outcome.Fine
last_fine FractionOutcome.Fine FractionOutcome.Fine Outcome.Fine h = refl
last_fine FractionOutcome.Fine FractionOutcome.Fine Outcome.Range h = absurd (cc)
last_fine FractionOutcome.Fine FractionOutcome.Fine Outcome.Degree h = absurd (cc)
last_fine FractionOutcome.Fine FractionOutcome.Range o h = absurd (cc)
last_fine FractionOutcome.Fine FractionOutcome.Degree o h = absurd (cc)
last_fine FractionOutcome.Fine (FractionOutcome.ZeroDenominator t) o h = absurd (cc)
last_fine FractionOutcome.Range b o h = absurd (cc)
last_fine FractionOutcome.Degree b o h = absurd (cc)
last_fine (FractionOutcome.ZeroDenominator t) b o h = absurd (cc)

-- the numerators of both sides
pub numerators_within : (e : Equation) → sides_outcome e ≡ FractionOutcome.Fine →
    IsWithin (left_numerator e) × IsWithin (right_numerator e)
numerators_within e h =
    let l = frac e.left in
    let r = frac e.right in
    let left = over_outcome l.top (lacks l.below r.below) in
    let right = over_outcome r.top (lacks r.below l.below) in
    let fine = worse_fine left right (last_fine (frac_outcome e.left) (frac_outcome e.right) (worse left right) h) in
    (over_within l.top (lacks l.below r.below) fine.0, over_within r.top (lacks r.below l.below) fine.1)

pub field_no_is_within_range : FieldNoIsWithinRange
field_no_is_within_range file e m a b h =
    let atoms = own_table file e in
    let within = numerators_within e h.0.1 in (
      numbered_within atoms (left_numerator e) m a within.0.bounded h.1.left,
      numbered_within atoms (right_numerator e) m b within.1.bounded h.1.right,
    )
