use Rattle.std.proofs.Common.{◌∙◌, ap, sym}
use Rattle.alg_typing.specs.Faults.{earlier_of, first_of}
use Rattle.alg_typing.specs.NameFaults.{term_names}
use Rattle.alg_typing.proofs.Firsts.{first_of-more}
use Rattle.alg_annotated.proofs.scope.Scope.terms_names.Goals as goal

pub loop-term-preserved : goal.loop-term-preserved
loop-term-preserved c =
    let faults = term_names c.args.self.now.declared.now c.args.self.now.text.now in
    c.earlier-first.ensures ∙ ap (λ o. earlier_of o c.term_names.result) c.loop-term.invariant
    ∙ ap (earlier_of _) (c.term_names.ensures ∙ ap (λ t. first_of (faults t)) c.term-item.is)
    ∙ sym (first_of-more faults c.args.terms.now c.loop-term.term-index _ c.loop-term-test.true)
