use Rattle.std.specs.Prelude.{◌≡◌, false, ◌||◌, ◌∷◌, [], pos, negsuc}
use Rattle.std.specs.Ordering.{eq_by_cmp}
use Rattle.std.proofs.Common.{refl, sym, ap, ◌∙◌}
use Rattle.alg_reify.specs.FactorMaps.{order}
use Rattle.alg_field.proofs.NumberTests.{number_test}
use Rattle.alg_field.proofs.constants.is_unit.Goals as goal

-- it is not 1, so it is a unit where it is -1
pub returns-else-eq-clause-test : goal.returns-else-eq-clause-test
returns-else-eq-clause-test c =
    let p = c.args.p.now in
    let o = c.number_of-number.result in
    let is = c.number_of-number.ensures.number in
    let other : eq_by_cmp order p (([], pos 1) ∷ []) ≡ false =
    sym (number_test p o (pos 1) is refl) ∙ sym c.eq.ensures ∙ c.if-eq.false in
    c.eq-else-eq.ensures ∙ number_test p o (negsuc 0) is refl
    ∙ ap (λ b. b || eq_by_cmp order p (([], negsuc 0) ∷ [])) (sym other)
