use Rattle.alg_typing.proofs.SortLaws.{one_own_sort, one_equation_sort, one_final_sort}
use Rattle.alg_typing.proofs.laws.one_notion_of_sorts.Goals as goal

pub returns-clause-own : goal.returns-clause-own
returns-clause-own c = one_own_sort

pub returns-clause-equation : goal.returns-clause-equation
returns-clause-equation c = one_equation_sort

pub returns-clause-final_sort : goal.returns-clause-final_sort
returns-clause-final_sort c = one_final_sort
