use Rattle.std.proofs.Common.{◌+◌, sym, subst}
use Rattle.alg_terms.specs.declared.term.Term.TheVariants.{Div}
use Rattle.alg_field.specs.TestTerms.{IsSide}
use Rattle.alg_field.proofs.TestTerms.{quotient_is_side}
use Rattle.alg_field_tests.proofs.equations.quotient.Goals as goal

pub returns : goal.returns
returns c = λ file d small h g.
    subst (IsSide file (d + 1)) (λ i. Div (sym c.in_ok-new.ensures i) (sym c.in_ok-new-2.ensures i))
    (quotient_is_side file d c.args.left c.args.right h g small)
