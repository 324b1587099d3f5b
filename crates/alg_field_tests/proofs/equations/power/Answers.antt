use Rattle.std.proofs.Common.{rules, ◌≡◌, ◌≤◌}
use Rattle.std.specs.Prelude.{pos}
use Rattle.alg_terms.specs.Limits.{MAX_EXPONENT}
use Rattle.alg_terms.specs.declared.term.Term.TheVariants.{Pow}
use Rattle.alg_field.specs.TestTerms.{linear_power}
use Rattle.alg_field.proofs.TestTerms.{power_is_side}
use Rattle.alg_field_tests.proofs.equations.power.Goals as goal

pub returns : goal.returns
returns c =
    let n = c.min.result in
    let is : Pow c.in_ok-new-5.field-0 n ≡ linear_power (pos c.args.power.0) (pos c.args.power.1) n = search rules in
    let small : n ≤ MAX_EXPONENT = search rules in
    λ file there. power_is_side file _ (pos c.args.power.0) (pos c.args.power.1) n is there
    (search rules, search rules) (search rules, search rules) small
