use Rattle.std.proofs.Common.{◌∙◌, [], ap, sym}
use Rattle.std.specs.Prelude.{unwrap_or}
use Rattle.alg_typing.specs.Faults.{earlier_of, first_of}
use Rattle.alg_typing.proofs.Firsts.{first_of-more}
use Rattle.alg_annotated.specs.Monomials.{factor_fault}
use Rattle.alg_annotated.proofs.scope.Scope.factors_fault.Goals as goal

pub loop-factor-preserved : goal.loop-factor-preserved
loop-factor-preserved c =
    let faults = factor_fault c.args.self.now.declared.now c.args.self.now.text.now (unwrap_or c.args.atoms.now []) in
    c.earlier-first.ensures ∙ ap (λ o. earlier_of o c.in_ok-fault.fault) c.loop-factor.invariant
    ∙ ap (earlier_of _) (c.in_ok-fault.ensures ∙ ap (λ f. first_of (faults f)) c.factor-item.is)
    ∙ sym (first_of-more faults c.args.factors.now c.loop-factor.factor-index _ c.loop-factor-test.true)
