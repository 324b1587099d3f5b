use Rattle.std.specs.Prelude.{Bool, cond}
use Rattle.std.specs.Ordering.{nat_cmp}
use Rattle.std.proofs.Common.{sym, subst, ◌∙◌}
use Rattle.alg_meaning.specs.FractionOutcome.{FractionOutcome, of_polynomials}
use Rattle.alg_meaning.specs.FractionRules.{quotient_of_fractions}
use Rattle.alg_meaning.specs.FractionsOver.{is_unit, frac_quotient}
use Rattle.alg_reify.specs.Ends.{GivesFraction}
use Rattle.alg_reify.proofs.Operations.{in_any_case}
use Rattle.alg_reify.proofs.fractions.divided.Goals as goal

-- the denominator is not zero
pub returns : goal.returns
returns g c =
    let a = g.F.FractionForm.fraction c.args.left in
    let b = g.F.FractionForm.fraction c.args.right in
    let t = c.args.denominator.now in
    let P : Bool → Type 0 = λ zero. GivesFraction g.F.FractionForm.fraction (frac_quotient nat_cmp (is_unit nat_cmp
    b.top) a b)
    (cond zero (FractionOutcome.ZeroDenominator t) (of_polynomials (quotient_of_fractions nat_cmp a b)))
    c.ended.result in (
      in_any_case c.ended.result c.in_ok-add_condition.ensures,
      subst P (sym (sym c.is_zero.ensures ∙ c.if-is_zero.false)) (c.ended.ensures _ _ c.quotient.ensures),
    )
