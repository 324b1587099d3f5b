-- The polynomials 1 and -1 as factors.
use Rattle.std.specs.Prelude.{◌≡◌, ◌+◌, ◌*◌, ◌<◌, true, false, ◌||◌, List, [], ◌∷◌, ◌++◌, nat_lt}
use Rattle.std.proofs.Common.{refl, sym, ap, ◌∙◌, append-nil}
use Rattle.std.proofs.lemmas.Bool.{ltb-true, ltb-false}
use Rattle.std.proofs.lemmas.List.Sums.{sum_by-cons}
use Rattle.std.specs.Ordering.{nat_cmp}
use Rattle.alg_mono.specs.Monomials.{degree}
use Rattle.alg_mono.specs.NumberedPolynomials.{Polynomial}
use Rattle.alg_mono.specs.Outcomes.{is_nothing, product_outcome}
use Rattle.alg_mono.specs.Polynomials.{IsPoly, norm, poly_degree}
use Rattle.alg_meaning.specs.FractionRules.{all_factors, over_outcome}
use Rattle.alg_meaning.specs.FractionsOver.{is_unit}
use Rattle.alg_reify.proofs.FactorMeasures.{AreLike, both_like, same_rule}
use Rattle.alg_reify.specs.FactorMaps.{FactorMap}
use Rattle.alg_field.specs.Lists.{IsFactor}
use Rattle.alg_reify.proofs.NormsSome.{norm_some}
use Rattle.alg_reify.proofs.UnitPolynomials.{unit_is, small_unit}

itself_like : (ps : List Polynomial) → AreLike ps ps
itself_like ps = record { norm = refl; degree = refl; nothing = refl }

-- as the last factor it changes no rule
pub unit_last : (p u : Polynomial) (m : FactorMap) → is_unit nat_cmp u ≡ true →
    over_outcome p m ≡ product_outcome (p ∷ (all_factors m ++ u ∷ []))
unit_last p u m h =
    let unit = unit_is u h in
    let all = all_factors m in
    let last : AreLike (u ∷ []) [] = record {
      norm = ap (λ n. n * 1) unit.norm;
      degree = sum_by-cons (λ (q : Polynomial). poly_degree q) u [] ∙ ap (λ n. n + 0) unit.degree;
      nothing = ap (λ b. b || false) unit.some;
    } in
    let tail = both_like all (u ∷ []) all [] (itself_like all) last in
    let whole = both_like (p ∷ []) (all ++ u ∷ []) (p ∷ []) (all ++ []) (itself_like (p ∷ [])) tail in
    sym (same_rule (p ∷ (all ++ u ∷ [])) (p ∷ (all ++ [])) whole ∙ ap (λ ps. product_outcome (p ∷ ps)) (append-nil all))

-- what is no unit is a factor
pub factor_is : (p : Polynomial) → IsPoly nat_cmp p → is_nothing p ≡ false → is_unit nat_cmp p ≡ false → IsFactor p
factor_is p h some other = record {
  some = norm_some p h some;
  no_unit =
      elim (nat_lt 1 (norm p + poly_degree p)) as (λ b. nat_lt 1 (norm p + poly_degree p) ≡ b →
      1 < norm p + poly_degree p) [
        | true ↦ λ e. ltb-true 1 (norm p + poly_degree p) e
        | false ↦ λ e.
            let unit = small_unit p h some (ltb-false 1 (norm p + poly_degree p) e) in absurd (cc (unit, other))
      ] refl;
}
