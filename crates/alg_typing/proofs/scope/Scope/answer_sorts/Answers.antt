use Rattle.std.proofs.Common.{◌∙◌, ap, sym, true, Some, unwrap_or}
use Rattle.alg_typing.specs.AnswerTerms.{may_divide}
use Rattle.alg_typing.specs.Faults.{first_of}
use Rattle.alg_typing.specs.TermSorts.{sorted}
use Rattle.alg_typing.proofs.Sorted.{sorted_own}
use Rattle.alg_typing.proofs.scope.Scope.answer_sorts.Goals as goal

pub own_sort-requires : goal.own_sort-requires
own_sort-requires c = c.requires

pub check-requires : goal.check-requires
check-requires c = c.requires

pub returns : goal.returns
returns c =
    let file = c.args.self.now.declared.now in
    let text = c.args.self.now.text.now in
    let t = c.args.raw.now in
    let by = c.args.goal.now in
    let sort =
    c.unwrap_or.ensures
    ∙ ap (λ own. unwrap_or own by.equation.sort)
    (c.own_sort.ensures ∙ sym (sorted_own file text (may_divide by.method) t)) in
    c.check.ensures.fault
    ∙ (λ i. first_of ((sorted file text (c.may_divide.ensures i) t).faults (Some (c.unwrap_or.result)) true))
    ∙ ap (λ s. first_of ((sorted file text (may_divide by.method) t).faults (Some s) true)) sort
