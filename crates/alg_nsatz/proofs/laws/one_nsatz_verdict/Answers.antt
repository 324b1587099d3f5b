use Rattle.alg_nsatz.proofs.OneVerdict.{one_nsatz_verdict}
use Rattle.alg_nsatz.proofs.laws.one_nsatz_verdict.Goals as goal

pub returns : goal.returns
returns c = one_nsatz_verdict c.one_end.ensures
