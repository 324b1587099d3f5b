use Rattle.std.proofs.Common.{subst}
use Rattle.alg_terms.specs.Valid.{IsValid}
use Rattle.alg_typing.proofs.declared.Declared.first_fault.Goals as goal

pub first_fault-requires : goal.first_fault-requires
first_fault-requires c = c.requires

pub returns-clause-valid : goal.returns-clause-valid
returns-clause-valid c = subst IsValid c.file-file.ensures.file c.file-file.ensures.valid

pub returns-clause-fault : goal.returns-clause-fault
returns-clause-fault c = c.first_fault.ensures
