use Rattle.std.proofs.Common.{sym, ◌∙◌}
use Rattle.alg_typing.proofs.TypedTerms.{names_first, sorts_next}
use Rattle.alg_typing.proofs.scope.Scope.answer_fault.Goals as goal

pub term_names-requires : goal.term_names-requires
term_names-requires c = c.requires

pub returns-in-Some : goal.returns-in-Some
returns-in-Some c = names_first _ _ c.in-Some.fault (sym c.in-Some.is ∙ c.term_names.ensures)

pub answer_sorts-requires : goal.answer_sorts-requires
answer_sorts-requires c = c.requires

pub returns-in-None : goal.returns-in-None
returns-in-None c = sorts_next _ _ c.answer_sorts.result (sym c.in-None.is ∙ c.term_names.ensures)
    c.answer_sorts.ensures
