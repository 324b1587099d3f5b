use Rattle.alg_reader.proofs.WellRead.{may_stand}
use Rattle.alg_reader.proofs.laws.statements_may_stand.Goals as goal

pub returns : goal.returns
returns c = may_stand
