use Rattle.std.proofs.Common.{◌∙◌, ap, sym}
use Rattle.alg_typing.specs.Faults.{earlier_of, first_of}
use Rattle.alg_typing.specs.SortFaults.{equation_sorts, method_sorts, sort_faults, may_divide_by, sort_of_sides}
use Rattle.alg_typing.proofs.Firsts.{first_of-append}
use Rattle.alg_typing.proofs.scope.Scope.sort_faults.Goals as goal

pub returns-in-Goal : goal.returns-in-Goal
returns-in-Goal c =
    let file = c.args.self.now.declared.now in
    let text = c.args.self.now.text.now in
    let e = c.in-Goal.equation in
    let method = c.in-Goal.method in
    let sides =
    c.equation_fault-sides.ensures
    ∙ ap (λ may. first_of (equation_sorts file text may e)) (c.may_divide_by.ensures file text) in
    let by =
    c.method_fault.ensures
    ∙ ap (λ s. first_of (method_sorts file text s c.in-Goal.method_at method)) c.sort_of_sides-sort.ensures in
    c.earlier.ensures ∙ (λ i. earlier_of (sides i) (by i))
    ∙ sym (first_of-append (equation_sorts file text (may_divide_by file text method) e)
    (method_sorts file text (sort_of_sides file text e) c.in-Goal.method_at method))
    ∙ sym (ap (λ k. first_of (sort_faults file text k)) c.in-Goal.is)
