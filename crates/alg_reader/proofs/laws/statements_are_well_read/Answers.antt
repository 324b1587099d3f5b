use Rattle.alg_reader.proofs.WellRead.{well_read}
use Rattle.alg_reader.proofs.laws.statements_are_well_read.Goals as goal

pub returns : goal.returns
returns c = well_read
