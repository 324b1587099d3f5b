use Rattle.std.proofs.Common.{◌≡◌, List, [], subst, ◌∙◌}
use Rattle.std.proofs.lemmas.Result.{IfOk-weaker}
use Rattle.alg_terms.specs.declared.term.Term.{Term}
use Rattle.alg_reify.specs.Answers.{IsRingAnswer}
use Rattle.alg_check.specs.Answers.{IsComparison}
use Rattle.alg_check.proofs.Answers.{ring_compared}
use Rattle.alg_check.proofs.ring.ring_answer.Goals as goal

-- both sides were made and compared
pub returns-in-Ok : goal.returns-in-Ok
returns-in-Ok c =
    let left = c.in-Ok.left in
    let right = c.in-Ok.right in
    let none : c.from_vec.result ≡ [] = c.from_vec.ensures ∙ c.new.ensures.items in
    IfOk-weaker c.compared.result (IsComparison left right c.from_vec.result)
    (IsRingAnswer c.args.file.now c.args.equation.now)
    (λ a h. ring_compared c.args.file.now c.args.equation.now c.in-Ok.ensures.fine left right c.in-Ok.ensures.left
    c.in-Ok.ensures.right a (subst (λ (terms : List Term). IsComparison left right terms a) none h)) c.compared.ensures
