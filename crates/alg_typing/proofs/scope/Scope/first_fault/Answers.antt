use Rattle.std.proofs.Common.{Some, sym, ◌∙◌, ap}
use Rattle.alg_typing.proofs.FirstFaults.{error_tells_nothing, first_is_deep, first_is_name, first_is_sort}
use Rattle.alg_typing.proofs.scope.Scope.first_fault.Goals as goal

pub returns-in-Some : goal.returns-in-Some
returns-in-Some c =
    ap Some c.at.ensures
    ∙ first_is_deep c.args.self.now.declared.now c.args.self.now.text.now c.args.raw.now c.in-Some.at c.in-Some.is

pub name_faults-requires : goal.name_faults-requires
name_faults-requires c = c.requires

pub returns-in_err-fault : goal.returns-in_err-fault
returns-in_err-fault c = error_tells_nothing _ _ c.from_residual.result c.from_residual.ensures.1

pub sort_faults-requires : goal.sort_faults-requires
sort_faults-requires c = c.requires

pub returns-in-Some-2 : goal.returns-in-Some-2
returns-in-Some-2 c =
    first_is_name c.args.self.now.declared.now c.args.self.now.text.now c.args.raw.now c.in-Some-2.fault
    c.in_default.not-Some (sym c.in-Some-2.is ∙ c.in_ok-fault.ensures)

pub returns-in-None : goal.returns-in-None
returns-in-None c =
    first_is_sort c.args.self.now.declared.now c.args.self.now.text.now c.args.raw.now c.sort_faults.result
    c.in_default.not-Some (sym c.in-None.is ∙ c.in_ok-fault.ensures) c.sort_faults.ensures
