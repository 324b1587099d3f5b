use Rattle.std.proofs.Common.{◌∙◌, ap, sym}
use Rattle.alg_terms.specs.Members.{goal_at}
use Rattle.alg_typing.specs.AnswerTerms.{answer_sorts}
use Rattle.alg_typing.specs.Faults.{earlier_of, first_of}
use Rattle.alg_typing.proofs.Firsts.{first_of-more}
use Rattle.alg_annotated.specs.Rules.{last_goal}
use Rattle.alg_annotated.proofs.scope.Scope.terms_sorts.Goals as goal

pub loop-term-preserved : goal.loop-term-preserved
loop-term-preserved c =
    let file = c.args.self.now.declared.now in
    let text = c.args.self.now.text.now in
    let faults = answer_sorts file text (last_goal file) in
    c.earlier-first.ensures ∙ ap (λ o. earlier_of o c.term_sorts.result) c.loop-term.invariant
    ∙ ap (earlier_of _) (c.term_sorts.ensures
    ∙ ap (λ n. first_of (answer_sorts file text (goal_at file n) c.term-item.result)) c.last_goal-goal.ensures
    ∙ ap (λ t. first_of (faults t)) c.term-item.is)
    ∙ sym (first_of-more faults c.args.terms.now c.loop-term.term-index _ c.loop-term-test.true)
