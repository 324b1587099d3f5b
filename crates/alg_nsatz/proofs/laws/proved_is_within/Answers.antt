use Rattle.alg_nsatz.proofs.Within.{proved_is_within}
use Rattle.alg_nsatz.proofs.laws.proved_is_within.Goals as goal

pub returns : goal.returns
returns c = proved_is_within c.certificates_are_within.ensures
