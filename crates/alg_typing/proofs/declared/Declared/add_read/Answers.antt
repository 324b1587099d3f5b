use Rattle.std.proofs.Common.{refl, sym, ◌∙◌}
use Rattle.alg_typing.proofs.FirstFaults.{memory_tells_nothing, error_is_not_ok, on_error}
use Rattle.alg_typing.proofs.declared.Declared.add_read.Goals as goal

pub first_fault-requires : goal.first_fault-requires
first_fault-requires c = c.requires.well_read.1.kind

-- there is no memory to look for the first fault
pub returns-in_err-fault-clause-ok : goal.returns-in_err-fault-clause-ok
returns-in_err-fault-clause-ok c = error_is_not_ok _ _ c.from_residual.result c.from_residual.ensures.1

pub returns-in_err-fault-clause-refused : goal.returns-in_err-fault-clause-refused
returns-in_err-fault-clause-refused c = memory_tells_nothing _ c.from_residual.result c.from_residual.ensures.1

pub returns-in_err-fault-clause-err : goal.returns-in_err-fault-clause-err
returns-in_err-fault-clause-err c = on_error _ c.from_residual.result refl

-- there is no fault
pub extend-requires-clause-valid : goal.extend-requires-clause-valid
extend-requires-clause-valid c = c.first_fault.ensures.valid

pub extend-requires-clause-size : goal.extend-requires-clause-size
extend-requires-clause-size c = c.requires.size

pub extend-requires-clause-well_read : goal.extend-requires-clause-well_read
extend-requires-clause-well_read c = c.requires.well_read

pub extend-requires-clause-room : goal.extend-requires-clause-room
extend-requires-clause-room c = c.requires.room

pub extend-requires-clause-faultless : goal.extend-requires-clause-faultless
extend-requires-clause-faultless c = sym c.in_ok-fault.ensures.fault ∙ c.in-None.is

pub returns-in_err-extend-in-None-clause-ok : goal.returns-in_err-extend-in-None-clause-ok
returns-in_err-extend-in-None-clause-ok c =
    error_is_not_ok _ _ c.from_residual-in_err-extend-in-None.result c.from_residual-in_err-extend-in-None.ensures.1

pub returns-in_err-extend-in-None-clause-refused : goal.returns-in_err-extend-in-None-clause-refused
returns-in_err-extend-in-None-clause-refused c = memory_tells_nothing _ c.from_residual-in_err-extend-in-None.result
    c.from_residual-in_err-extend-in-None.ensures.1

pub returns-in_err-extend-in-None-clause-err : goal.returns-in_err-extend-in-None-clause-err
returns-in_err-extend-in-None-clause-err c =
    on_error _ c.from_residual-in_err-extend-in-None.result c.in_err-extend-in-None.ensures.err

pub returns-in_ok-extend-in-None-clause-ok : goal.returns-in_ok-extend-in-None-clause-ok
returns-in_ok-extend-in-None-clause-ok c =
    (sym c.in_ok-fault.ensures.fault ∙ c.in-None.is, c.in_ok-extend-in-None.ensures.ok)

-- there is one
pub returns-in-Some-clause-refused : goal.returns-in-Some-clause-refused
returns-in-Some-clause-refused c = sym c.in_ok-fault.ensures.fault ∙ c.in-Some.is

pub returns-in-Some-clause-err : goal.returns-in-Some-clause-err
returns-in-Some-clause-err c = refl
