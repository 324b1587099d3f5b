use Rattle.std.specs.Prelude.{◌≡◌, Bool, true, false, cond, List, [], ◌∷◌, ◌++◌}
use Rattle.std.proofs.Common.{◌∙◌, sym, ap, subst, append-nil}
use Rattle.std.specs.Ordering.{nat_cmp}
use Rattle.alg_mono.specs.NumberedPolynomials.{Polynomial, product_of}
use Rattle.alg_mono.specs.Outcomes.{product_outcome}
use Rattle.alg_meaning.specs.FractionRules.{worse, all_factors, below_outcome}
use Rattle.alg_meaning.specs.FractionsOver.{is_unit, frac_quotient}
use Rattle.alg_reify.specs.FactorMaps.{FactorMap, times_map, product}
use Rattle.alg_field.specs.Fractions.{fraction_of, MakesFraction}
use Rattle.alg_reify.proofs.Giving.{subst_both}
use Rattle.alg_field.proofs.MapRules.{times_none}
use Rattle.alg_field.proofs.Units.{factor_is}
use Rattle.alg_field.proofs.fraction.Fraction.quotient.Goals as goal

-- by 1 or -1: the factors stay
pub returns-then-is_unit : goal.returns-then-is_unit
returns-then-is_unit c =
    let a = c.args.self in
    let b = c.args.other in
    let made = c.over_both in
    let top = product_of (product_of a.top (product b.below)) b.top in
    let rule = product_outcome (a.top ∷ (all_factors b.below ++ b.top ∷ [])) in
    let unit : is_unit nat_cmp b.top ≡ true = sym c.is_unit.ensures.test ∙ c.if-is_unit.true in
    let same : times_map a.below c.none-none.result ≡ a.below =
    ap (λ m. times_map a.below m) c.none-none.ensures ∙ times_none a.below made.ensures.canonical in
    let P : FactorMap → Type 0 = λ m. MakesFraction (record { top = top; below = m }) (worse rule (below_outcome m))
    made.result in
    let Q : Bool → Type 0 = λ u. let q = frac_quotient nat_cmp u (fraction_of a) (fraction_of b) in
    MakesFraction q (worse (product_outcome (a.top ∷ (all_factors b.below ++ cond u (b.top ∷ []) [])))
    (below_outcome q.below)) made.result in
    subst Q (sym unit) (subst P same (made.ensures.made top rule c.times_unit-top.ensures))

-- the divisor's numerator is a factor
pub one-requires : goal.one-requires
one-requires c =
    factor_is c.args.other.top c.is_unit.ensures.sound c.requires (sym c.is_unit.ensures.test ∙ c.if-is_unit.false)

pub returns : goal.returns
returns c =
    let a = c.args.self in
    let b = c.args.other in
    let made = c.over_both-2 in
    let top = product_of a.top (product b.below) in
    let other : is_unit nat_cmp b.top ≡ false = sym c.is_unit.ensures.test ∙ c.if-is_unit.false in
    let P : FactorMap → List Polynomial → Type 0 = λ m all. let below = times_map a.below m in
    MakesFraction (record { top = top; below = below }) (worse (product_outcome (a.top ∷ all)) (below_outcome below))
    made.result in
    let Q : Bool → Type 0 = λ u. let q = frac_quotient nat_cmp u (fraction_of a) (fraction_of b) in
    MakesFraction q (worse (product_outcome (a.top ∷ (all_factors b.below ++ cond u (b.top ∷ []) [])))
    (below_outcome q.below)) made.result in
    subst Q (sym other)
    (subst_both P c.in_ok-one.ensures (sym (append-nil (all_factors b.below)))
    (made.ensures.made top (product_outcome (a.top ∷ all_factors b.below)) c.multiplied-top.ensures))
