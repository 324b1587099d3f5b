use Rattle.std.proofs.Common.{◌∙◌, ap, sym}
use Rattle.alg_terms.specs.Members.{goal_at}
use Rattle.alg_typing.specs.AnswerTerms.{first_fault_of_term}
use Rattle.alg_annotated.proofs.scope.Scope.term_of.Goals as goal

-- the term has no fault
pub unreachable-requires : goal.unreachable-requires
unreachable-requires c =
    let file = c.args.self.now.declared.now in
    let text = c.args.self.now.text.now in
    let told = rw c.in-Err-Refused.field-0-is at c.in-Err-Refused.ensures.refused in
    let none = ap (λ n. first_fault_of_term file text (goal_at file n) c.args.raw.now) c.last_goal.ensures
    ∙ c.requires.faultless in
    let both = sym none ∙ told in
    absurd (cc)
