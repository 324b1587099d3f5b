use Rattle.std.proofs.Common.{sym, ap, subst, ◌∙◌}
use Rattle.alg_terms.specs.AnswerRules.{IsAnswerTerm}
use Rattle.alg_terms.specs.declared.goals.Goal.{Goal}
use Rattle.alg_terms.specs.declared.term.Term.{Term}
use Rattle.alg_terms.specs.Members.{goal_at}
use Rattle.alg_typing.specs.AnswerTerms.{first_fault_of_term}
use Rattle.alg_typing.specs.Resolved.{term_of}
use Rattle.alg_typing.proofs.FirstFaults.{memory_tells_nothing, error_tells_nothing}
use Rattle.alg_typing.proofs.TypedTerms.{small, may_stand}
use Rattle.alg_typing.proofs.declared.Declared.term.Goals as goal

pub goal_at-requires : goal.goal_at-requires
goal_at-requires c = c.requires.goal

pub answer_fault-requires : goal.answer_fault-requires
answer_fault-requires c = record { names = c.requires.well_read.names }

-- there is a fault
pub returns-in-Some-clause-refused : goal.returns-in-Some-clause-refused
returns-in-Some-clause-refused c =
    sym (ap (λ (g : Goal). first_fault_of_term c.args.self.now c.args.text.now g c.args.raw.now) c.goal_at.ensures)
    ∙ sym c.answer_fault.ensures ∙ c.in-Some.is

-- there is none
pub term_of-requires : goal.term_of-requires
term_of-requires c =
    small c.args.self.now c.args.text.now c.args.raw.now c.goal_at.result.now
    (sym c.answer_fault.ensures ∙ c.in-None.is) c.requires.well_read

pub returns-in_ok-term_of-in-None-clause-ok : goal.returns-in_ok-term_of-in-None-clause-ok
returns-in_ok-term_of-in-None-clause-ok c = (
  sym (ap (λ (g : Goal). first_fault_of_term c.args.self.now c.args.text.now g c.args.raw.now) c.goal_at.ensures)
      ∙ sym c.answer_fault.ensures ∙ c.in-None.is,
  c.in_ok-term_of-in-None.ensures,
)

pub returns-in_ok-term_of-in-None-clause-rules : goal.returns-in_ok-term_of-in-None-clause-rules
returns-in_ok-term_of-in-None-clause-rules c =
    let file = c.args.self.now in
    let kept = may_stand file c.args.text.now c.args.raw.now c.goal_at.result.now
    (sym c.answer_fault.ensures ∙ c.in-None.is) c.requires.well_read in
    subst (λ (t : Term). IsAnswerTerm file (goal_at file c.args.goal) t) (sym c.in_ok-term_of-in-None.ensures)
    (subst (λ (g : Goal). IsAnswerTerm file g (term_of file c.args.text.now c.args.raw.now)) c.goal_at.ensures kept)

-- there is no memory
pub returns-in_err-term_of-in-None-clause-ok : goal.returns-in_err-term_of-in-None-clause-ok
returns-in_err-term_of-in-None-clause-ok c = error_tells_nothing _ _ c.from_residual.result c.from_residual.ensures.1

pub returns-in_err-term_of-in-None-clause-rules : goal.returns-in_err-term_of-in-None-clause-rules
returns-in_err-term_of-in-None-clause-rules c = error_tells_nothing _ _ c.from_residual.result c.from_residual.ensures.1

pub returns-in_err-term_of-in-None-clause-refused : goal.returns-in_err-term_of-in-None-clause-refused
returns-in_err-term_of-in-None-clause-refused c =
    memory_tells_nothing _ c.from_residual.result c.from_residual.ensures.1
