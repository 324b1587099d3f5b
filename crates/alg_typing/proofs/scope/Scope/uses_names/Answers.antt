use Rattle.std.proofs.Common.{◌∙◌, ap, sym}
use Rattle.alg_typing.specs.Faults.{earlier_of, first_of}
use Rattle.alg_typing.specs.NameFaults.{use_names}
use Rattle.alg_typing.proofs.Firsts.{first_of-more}
use Rattle.alg_typing.proofs.scope.Scope.uses_names.Goals as goal

pub loop-used-preserved : goal.loop-used-preserved
loop-used-preserved c =
    let faults = use_names c.args.self.now.declared.now c.args.self.now.text.now in
    c.earlier-first.ensures ∙ ap (λ o. earlier_of o c.use_names.result) c.loop-used.invariant
    ∙ ap (earlier_of _) (c.use_names.ensures ∙ ap (λ u. first_of (faults u)) c.used-item.is)
    ∙ sym (first_of-more faults c.args.uses.now c.loop-used.used-index _ c.loop-used-test.true)
