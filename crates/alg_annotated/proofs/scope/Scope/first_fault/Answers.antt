use Rattle.std.proofs.Common.{◌≡◌, Option, Some, sym, ◌∙◌, ap}
use Rattle.std.proofs.lemmas.Result.{IfOk-weaker}
use Rattle.alg_tokens.specs.declared.token.Refusal.{Refusal}
use Rattle.alg_typing.specs.Faults.{first_of}
use Rattle.alg_typing.proofs.FirstFaults.{error_tells_nothing}
use Rattle.alg_annotated.specs.Reading.{first_fault}
use Rattle.alg_annotated.specs.Rules.{statement_faults}
use Rattle.alg_annotated.proofs.FirstFaults.{first_is_deep, first_is_name, first_is_other}
use Rattle.alg_annotated.proofs.scope.Scope.first_fault.Goals as goal

-- a node is too deep
pub returns-in-Some : goal.returns-in-Some
returns-in-Some c =
    ap Some c.at.ensures
    ∙ first_is_deep c.args.self.now.declared.now c.args.self.now.text.now c.args.raw.now c.in-Some.at c.in-Some.is

pub part_names-requires-clause-well_read : goal.part_names-requires-clause-well_read
part_names-requires-clause-well_read c = c.requires.well_read

pub part_names-requires-clause-part : goal.part_names-requires-clause-part
part_names-requires-clause-part c = c.requires.part

pub returns-in_err-fault : goal.returns-in_err-fault
returns-in_err-fault c = error_tells_nothing _ _ c.from_residual.result c.from_residual.ensures.1

-- a name has a fault
pub returns-in-Some-2 : goal.returns-in-Some-2
returns-in-Some-2 c =
    first_is_name c.args.self.now.declared.now c.args.self.now.text.now c.args.raw.now c.in-Some-2.fault
    c.in_default.not-Some (sym c.in-Some-2.is ∙ c.in_ok-fault.ensures)

-- the names have none
pub resolved_fault-requires : goal.resolved_fault-requires
resolved_fault-requires c = record {
  well_read = c.requires.well_read;
  part = c.requires.part;
  there = c.requires.there;
  atoms = c.requires.atoms;
}

pub returns-in-None : goal.returns-in-None
returns-in-None c =
    let file = c.args.self.now.declared.now in
    let text = c.args.self.now.text.now in
    let raw = c.args.raw.now in
    IfOk-weaker c.resolved_fault.result
    (λ (found : Option Refusal). found ≡ first_of (statement_faults file text raw.start raw.kind))
    (λ (found : Option Refusal). found ≡ first_fault file text raw)
    (λ found is. first_is_other file text raw found c.in_default.not-Some
    (sym c.in-None.is ∙ c.in_ok-fault.ensures) is)
    c.resolved_fault.ensures
